-- The leading variable, the initial and the rest: which variables are absent, and where the highest power stands among the terms.
-- The order of monomials compares longer lists as greater, so that these laws ask for exponents of one length, as in pairs of words.
use Rattle.std.specs.Prelude.{◌≡◌, ◌≢◌, ◌⊎◌, T, eqb, get_or, set}
use Rattle.std.proofs.Math.Path.{refl, ap}
use Rattle.std.proofs.Common.{sym, ◌∙◌, ap₂, subst, inl, inr, le_refl, arith, eq-eqb, ne_eqb, eqb→eq, ext_get_or}
use mathlib.Core.List.{[], ◌∷◌, ◌++◌, append-nil}
use Rattle.std.proofs.Math.Bool.{Bool, true, false}
use Prim.Native.Nat.{Ordering}
use Prim.Native.Nat.{ℕ, zero, suc, ◌+◌, ◌≤◌, ◌<◌, compare}
use Rattle.std.proofs.Math.Decide.{dec_lt}
use Rattle.std.proofs.Math.Dec.{eqb_refl}
use Rattle.std.proofs.Math.ListN.{length, get_or-eq_default}
use Rattle.polynomials.specs.Poly.{Exponents, Term, Poly, order, join}
use Rattle.polynomials.specs.Canonical.{Under, Canonical, All}
use Rattle.polynomials.specs.Division.{degree, degrees, highest, leader, coefficient, without, initial, rest, pure_power, shift}
use Rattle.polynomials.specs.laws.All.{all_map, coefficient_all, without_all}
use Rattle.polynomials.specs.laws.Order.{Says, compare_says, then_lt, order_eq, order_refl}
use Rattle.polynomials.specs.laws.Canonical.{canonical_coefficient, canonical_without}
use Rattle.polynomials.specs.laws.Degree.{all_degree, degree_at_most, degree_without}
use Rattle.polynomials.specs.laws.Bounds.{at_degrees}
use Rattle.polynomials.specs.laws.Free.{Free}
use Rattle.polynomials.specs.laws.Places.{Places}

-- ── the highest exponent other than 0 ──
above_highest : (e : Exponents) (j : ℕ) → highest e ≤ j → get_or e j 0 ≡ 0
unfolding highest
above_highest [] j h = refl
above_highest (n ∷ e) j h = go (highest e) (above_highest e) (eqb n 0) (eqb→eq n 0) j h
  where
    go : (m : ℕ) → ((i : ℕ) → m ≤ i → get_or e i 0 ≡ 0) → (b : Bool) → (T b → n ≡ 0) → (j : ℕ) →
        elim m [ zero ↦ elim b [ true ↦ 0 | false ↦ 1 ] | suc k ↦ suc (suc k) ] ≤ j → get_or (n ∷ e) j 0 ≡ 0
    go zero ih true q zero l = q tt
    go zero ih true q (suc j) l = ih j (omega arith)
    go zero ih false q zero l = absurd (omega arith)
    go zero ih false q (suc j) l = ih j (omega arith)
    go (suc k) ih b q zero l = absurd (omega arith)
    go (suc k) ih b q (suc j) l = ih j (omega arith)

at_highest : (e : Exponents) (k : ℕ) → highest e ≡ k + 1 → 1 ≤ get_or e k 0
unfolding highest
at_highest [] k h = absurd (omega arith)
at_highest (n ∷ e) k h = go (highest e) (at_highest e) (eqb n 0) (λ (z : n ≡ 0). subst (λ x. T (eqb x 0)) (sym z) (eqb_refl 0)) k h
  where
    go : (m : ℕ) → ((i : ℕ) → m ≡ i + 1 → 1 ≤ get_or e i 0) → (b : Bool) → (n ≡ 0 → T b) → (k : ℕ) →
        elim m [ zero ↦ elim b [ true ↦ 0 | false ↦ 1 ] | suc k ↦ suc (suc k) ] ≡ k + 1 → 1 ≤ get_or (n ∷ e) k 0
    go zero ih true q k l = absurd (omega arith)
    go zero ih false q zero l = let q' : n ≢ 0 = q in omega arith
    go zero ih false q (suc k) l = absurd (omega arith)
    go (suc m) ih b q zero l = absurd (omega arith)
    go (suc m) ih b q (suc k) l = ih k (omega arith)

-- An exponent other than 0 stands at most at the highest place; where those from m on are 0, that is at most m.
below_highest : (e : Exponents) (k : ℕ) → 1 ≤ get_or e k 0 → k < highest e
below_highest e k h = elim (dec_lt k (highest e)) [ yes l ↦ l | no n ↦ let n' : ¬ (k < highest e) = n in absurd (omega (arith, above_highest e k (omega arith))) ]

highest_at_most : (e : Exponents) (m : ℕ) → ((j : ℕ) → m ≤ j → get_or e j 0 ≡ 0) → highest e ≤ m
highest_at_most e m h = go (highest e) (at_highest e)
  where
    go : (k : ℕ) → ((i : ℕ) → k ≡ i + 1 → 1 ≤ get_or e i 0) → k ≤ m
    go zero q = omega arith
    go (suc k) q = elim (dec_lt k m) [ yes l ↦ omega arith | no n ↦ let n' : ¬ (k < m) = n in absurd (omega (arith, q k (omega arith), h k (omega arith))) ]

-- ── the leading variable ──
-- A variable of degree 0 is absent.
free_degree : (j : ℕ) (f : Poly) → degree j f ≡ 0 → Free j f
free_degree j f h = all_map (λ a. get_or a j 0 ≤ 0) (λ a. get_or a j 0 ≡ 0) f (λ (a : Exponents) (l : get_or a j 0 ≤ 0). omega arith) (all_degree j 0 f (omega arith))

degree_free : (j : ℕ) (f : Poly) → Free j f → degree j f ≡ 0
degree_free j f u =
    let h : degree j f ≤ 0 = degree_at_most j 0 f (all_map (λ a. get_or a j 0 ≡ 0) (λ a. get_or a j 0 ≤ 0) f (λ (a : Exponents) (l : get_or a j 0 ≡ 0). omega arith) u) in
    omega arith

-- A variable above the leading one is absent; the leading one is present.
pub above_leader : (f : Poly) (j : ℕ) → leader f ≤ j → Free j f
unfolding leader
above_leader f j h = free_degree j f (sym (at_degrees j f) ∙ above_highest (degrees f) j h)

pub at_leader : (f : Poly) (k : ℕ) → leader f ≡ k + 1 → 1 ≤ degree k f
unfolding leader
at_leader f k h = omega (arith, at_highest (degrees f) k h, at_degrees k f)

pub leader_at_most : (f : Poly) (m : ℕ) → ((j : ℕ) → m ≤ j → Free j f) → leader f ≤ m
unfolding leader
leader_at_most f m h = highest_at_most (degrees f) m (λ j l. at_degrees j f ∙ degree_free j f (h j l))

pub leader_places : (n : ℕ) (f : Poly) → Places n f → leader f ≤ n
leader_places n f u =
    leader_at_most f n
    (λ j l. all_map (λ e. length e ≡ n) (λ e. get_or e j 0 ≡ 0) f (λ (e : Exponents) (h : length e ≡ n). get_or-eq_default e 0 {n = j} (omega arith)) u)

-- ── the highest power comes first ──
-- Of two monomials that agree above k, the lower one has no higher exponent at k.
order_at : (k : ℕ) (a b : Exponents) → length a ≡ length b → ((j : ℕ) → k < j → get_or a j 0 ≡ get_or b j 0) → order a b ≡ Ordering.lt → get_or a k 0 ≤ get_or b k 0
unfolding order
order_at k [] b h q o = omega arith
order_at k (x ∷ a) [] h q o = absurd (omega arith)
order_at zero (x ∷ a) (y ∷ b) h q o = go (then_lt (order a b) (compare x y) o)
  where
    same : a ≡ b
    same = ext_get_or 0 a b (omega arith) (λ i l. q (suc i) (omega arith))

    go : (order a b ≡ Ordering.lt) ⊎ ((order a b ≡ Ordering.eq) × (compare x y ≡ Ordering.lt)) → x ≤ y
    go (inl l) = let e : order a b ≡ Ordering.eq = subst (λ s. order a s ≡ Ordering.eq) same (order_refl a) in let z : ◌≡◌ {A = ℕ} 0 1 = cc in absurd (omega arith)
    go (inr e) = let l : x < y = subst (λ o. Says o x y) e.1 (compare_says x y) in omega arith
order_at (suc k) (x ∷ a) (y ∷ b) h q o = go (order_at k a b (omega arith) (λ j l. q (suc j) (omega arith))) (then_lt (order a b) (compare x y) o)
  where
    go : (order a b ≡ Ordering.lt → get_or a k 0 ≤ get_or b k 0) →
        (order a b ≡ Ordering.lt) ⊎ ((order a b ≡ Ordering.eq) × (compare x y ≡ Ordering.lt)) → get_or a k 0 ≤ get_or b k 0
    go ih (inl l) = ih l
    go ih (inr e) = subst (λ s. get_or a k 0 ≤ get_or s k 0) (order_eq a b e.0) (le_refl (get_or a k 0))

under_at : (k n : ℕ) (b : Exponents) (f : Poly) → length b ≡ n → Places n f → ((j : ℕ) → k < j → get_or b j 0 ≡ 0) → ((j : ℕ) → k < j → Free j f) → Under b f → All (λ e. get_or e k 0 ≤ get_or b k 0) f
under_at k n b [] h u q v o = tt
under_at k n b (t ∷ f) h u q v o = (
  order_at k t.exps b (u.0 ∙ sym h) (λ j l. (v j l).0 ∙ sym (q j l)) o.0,
  under_at k n b f h u.1 q (λ j l. (v j l).1) o.1,
)

-- No exponent at k is higher than the first term's, where no variable above stands in f.
pub falling : (p k n : ℕ) (t : Term) (f : Poly) → Canonical p (t ∷ f) → Places n (t ∷ f) → ((j : ℕ) → k < j → Free j (t ∷ f)) → All (λ e. get_or e k 0 ≤ get_or t.exps k 0) (t ∷ f)
falling p k n t f c u v = (le_refl (get_or t.exps k 0), under_at k n t.exps f u.0 u.1 (λ j l. (v j l).0) (λ j l. (v j l).1) c.2)

pub degree_first : (p k n : ℕ) (t : Term) (f : Poly) → Canonical p (t ∷ f) → Places n (t ∷ f) → ((j : ℕ) → k < j → Free j (t ∷ f)) → degree k (t ∷ f) ≡ get_or t.exps k 0
degree_first p k n t f c u v =
    omega (arith, degree_at_most k (get_or t.exps k 0) (t ∷ f) (falling p k n t f c u v), (all_degree k (degree k (t ∷ f)) (t ∷ f) (le_refl (degree k (t ∷ f)))).0)

-- The leading variable stands in the first term.
pub leader_first : (p n : ℕ) (t : Term) (f : Poly) → Canonical p (t ∷ f) → Places n (t ∷ f) → leader (t ∷ f) ≡ highest t.exps
leader_first p n t f c u = go (leader (t ∷ f)) refl
  where
    most : highest t.exps ≤ leader (t ∷ f)
    most = highest_at_most t.exps (leader (t ∷ f)) (λ j l. (above_leader (t ∷ f) j l).0)

    go : (m : ℕ) → leader (t ∷ f) ≡ m → leader (t ∷ f) ≡ highest t.exps
    go zero e = omega (arith, most)
    go (suc k) e =
        omega (arith, most, below_highest t.exps k (omega (arith, at_leader (t ∷ f) k (omega arith), degree_first p k n t f c u (λ j l. above_leader (t ∷ f) j (omega arith)))))

-- ── the initial and the rest ──
pub canonical_initial : (p k : ℕ) (f : Poly) → Canonical p f → Canonical p (initial k f)
unfolding initial
canonical_initial p k f c = canonical_coefficient p k (degree k f) f c

pub canonical_rest : (p k : ℕ) (f : Poly) → Canonical p f → Canonical p (rest k f)
unfolding rest
canonical_rest p k f c = canonical_without p k (degree k f) f c

-- A part has no more terms than f.
pub length_initial : (k : ℕ) (f : Poly) → length (initial k f) ≤ length f
unfolding initial coefficient
length_initial k f = of (degree k f) f
  where
    of : (d : ℕ) (f : Poly) → length (coefficient k d f) ≤ length f
    of d [] = omega arith
    of d (t ∷ f) = go (eqb (get_or t.exps k 0) d) (of d f)
      where
        go : (b : Bool) → length (coefficient k d f) ≤ length f →
            length {A = Term} (elim b [ true ↦ record { coef = t.coef; exps = set t.exps k 0 } ∷ coefficient k d f | false ↦ coefficient k d f ]) ≤ suc (length f)
        go true ih = omega arith
        go false ih = omega arith

pub length_rest : (k : ℕ) (f : Poly) → length (rest k f) ≤ length f
unfolding rest without
length_rest k f = of (degree k f) f
  where
    of : (d : ℕ) (f : Poly) → length (without k d f) ≤ length f
    of d [] = omega arith
    of d (t ∷ f) = go (eqb (get_or t.exps k 0) d) (of d f)
      where
        go : (b : Bool) → length (without k d f) ≤ length f → length {A = Term} (elim b [ true ↦ without k d f | false ↦ t ∷ without k d f ]) ≤ suc (length f)
        go true ih = omega arith
        go false ih = omega arith

-- No degree of a part is above that of f.
clear_le : (j k : ℕ) (e : Exponents) → get_or (set e k 0) j 0 ≤ get_or e j 0
clear_le j k [] = le_refl 0
clear_le zero zero (x ∷ e) = omega arith
clear_le zero (suc k) (x ∷ e) = le_refl x
clear_le (suc j) zero (x ∷ e) = le_refl (get_or e j 0)
clear_le (suc j) (suc k) (x ∷ e) = clear_le j k e

pub degree_initial_le : (j k : ℕ) (f : Poly) → degree j (initial k f) ≤ degree j f
unfolding initial
degree_initial_le j k f =
    degree_at_most j (degree j f) (initial k f)
    (coefficient_all (λ e. get_or e j 0 ≤ degree j f) (λ e. get_or e j 0 ≤ degree j f) k (degree k f) f
    (λ (e : Exponents) (h : get_or e j 0 ≤ degree j f). omega (arith, clear_le j k e)) (all_degree j (degree j f) f (le_refl (degree j f))))

pub degree_rest_le : (j k : ℕ) (f : Poly) → degree j (rest k f) ≤ degree j f
unfolding rest
degree_rest_le j k f = degree_at_most j (degree j f) (rest k f) (without_all (λ e. get_or e j 0 ≤ degree j f) k (degree k f) f (all_degree j (degree j f) f (le_refl (degree j f))))

pub free_initial : (j k : ℕ) (f : Poly) → Free j f → Free j (initial k f)
free_initial j k f u = free_degree j (initial k f) (omega (arith, degree_initial_le j k f, degree_free j f u))

pub free_rest : (j k : ℕ) (f : Poly) → Free j f → Free j (rest k f)
unfolding rest
free_rest j k f u = without_all (λ e. get_or e j 0 ≡ 0) k (degree k f) f u

module _ (k : ℕ) (f : Poly) (led : leader f ≡ k + 1) where
  pub degree_rest : degree k (rest k f) < degree k f
  unfolding rest
  degree_rest = degree_without k (degree k f) f (at_leader f k led) (le_refl (degree k f))

-- ── the parts, term by term ──
-- A term without its exponent at k.
abbrev pub cleared : ℕ → Term → Term
cleared k t = record { coef = t.coef; exps = set t.exps k 0 }

module _ (k d : ℕ) where
  pub coefficient_of : (t : Term) (f : Poly) → get_or t.exps k 0 ≡ d → coefficient k d (t ∷ f) ≡ cleared k t ∷ coefficient k d f
  unfolding coefficient
  coefficient_of t f h = ap (λ (b : Bool). elim b as (λ b. Poly) [ true ↦ cleared k t ∷ coefficient k d f | false ↦ coefficient k d f ]) (eq-eqb (get_or t.exps k 0) d h)

  pub coefficient_off : (t : Term) (f : Poly) → get_or t.exps k 0 ≢ d → coefficient k d (t ∷ f) ≡ coefficient k d f
  unfolding coefficient
  coefficient_off t f h = ap (λ (b : Bool). elim b as (λ b. Poly) [ true ↦ cleared k t ∷ coefficient k d f | false ↦ coefficient k d f ]) (ne_eqb (get_or t.exps k 0) d h)

  pub without_of : (t : Term) (f : Poly) → get_or t.exps k 0 ≡ d → without k d (t ∷ f) ≡ without k d f
  unfolding without
  without_of t f h = ap (λ (b : Bool). elim b as (λ b. Poly) [ true ↦ without k d f | false ↦ t ∷ without k d f ]) (eq-eqb (get_or t.exps k 0) d h)

  without_off : (t : Term) (f : Poly) → get_or t.exps k 0 ≢ d → without k d (t ∷ f) ≡ t ∷ without k d f
  unfolding without
  without_off t f h = ap (λ (b : Bool). elim b as (λ b. Poly) [ true ↦ without k d f | false ↦ t ∷ without k d f ]) (ne_eqb (get_or t.exps k 0) d h)

  -- Terms of the power d, and terms of other powers.
  pub length_coefficient : (f : Poly) → All (λ e. get_or e k 0 ≡ d) f → length (coefficient k d f) ≡ length f
  unfolding coefficient
  length_coefficient [] u = refl
  length_coefficient (t ∷ f) u = ap length (coefficient_of t f u.0) ∙ ap suc (length_coefficient f u.1)

  pub coefficient_none : (f : Poly) → All (λ e. get_or e k 0 ≢ d) f → coefficient k d f ≡ []
  unfolding coefficient
  coefficient_none [] u = refl
  coefficient_none (t ∷ f) u = coefficient_off t f u.0 ∙ coefficient_none f u.1

  pub without_none : (f : Poly) → All (λ e. get_or e k 0 ≢ d) f → without k d f ≡ f
  unfolding without
  without_none [] u = refl
  without_none (t ∷ f) u = without_off t f u.0 ∙ ap (λ g. t ∷ g) (without_none f u.1)

  without_every : (f : Poly) → All (λ e. get_or e k 0 ≡ d) f → without k d f ≡ []
  unfolding without
  without_every [] u = refl
  without_every (t ∷ f) u = without_of t f u.0 ∙ without_every f u.1

  pub coefficient_append : (f g : Poly) → coefficient k d (f ++ g) ≡ coefficient k d f ++ coefficient k d g
  unfolding coefficient
  coefficient_append [] g = refl
  coefficient_append (t ∷ f) g = go (eqb (get_or t.exps k 0) d) (coefficient_append f g)
    where
      part : Bool → Poly → Poly
      part b h = elim b [ true ↦ cleared k t ∷ h | false ↦ h ]

      go : (b : Bool) → coefficient k d (f ++ g) ≡ coefficient k d f ++ coefficient k d g → part b (coefficient k d (f ++ g)) ≡ part b (coefficient k d f) ++ coefficient k d g
      go true ih = ap (λ h. cleared k t ∷ h) ih
      go false ih = ih

  without_append : (f g : Poly) → without k d (f ++ g) ≡ without k d f ++ without k d g
  unfolding without
  without_append [] g = refl
  without_append (t ∷ f) g = go (eqb (get_or t.exps k 0) d) (without_append f g)
    where
      part : Bool → Poly → Poly
      part b h = elim b [ true ↦ h | false ↦ t ∷ h ]

      go : (b : Bool) → without k d (f ++ g) ≡ without k d f ++ without k d g → part b (without k d (f ++ g)) ≡ part b (without k d f) ++ without k d g
      go true ih = ih
      go false ih = ap (λ h. t ∷ h) ih

  -- The terms of the power d come first.
  module _ (f g : Poly) (u : All (λ e. get_or e k 0 ≡ d) f) (v : All (λ e. get_or e k 0 ≢ d) g) where
    pub coefficient_parted : coefficient k d (f ++ g) ≡ coefficient k d f
    coefficient_parted = coefficient_append f g ∙ ap (λ h. coefficient k d f ++ h) (coefficient_none g v) ∙ append-nil (coefficient k d f)

    pub without_parted : without k d (f ++ g) ≡ g
    without_parted = without_append f g ∙ ap₂ ◌++◌ (without_every f u) (without_none g v)

pub shift_append : (k m : ℕ) (f g : Poly) → shift k m (f ++ g) ≡ shift k m f ++ shift k m g
unfolding shift
shift_append k m [] g = refl
shift_append k m (t ∷ f) g = ap (λ h. record { coef = t.coef; exps = join (pure_power k m) t.exps } ∷ h) (shift_append k m f g)

-- The first term of the initial is that of f.
pub initial_first : (p k n : ℕ) (t : Term) (f : Poly) → Canonical p (t ∷ f) → Places n (t ∷ f) → leader (t ∷ f) ≡ k + 1 → initial k (t ∷ f) ≡ cleared k t ∷ coefficient k (degree k (t ∷ f)) f
unfolding initial
initial_first p k n t f c u e = coefficient_of k (degree k (t ∷ f)) t f (sym (degree_first p k n t f c u (λ j l. above_leader (t ∷ f) j (omega arith))))
