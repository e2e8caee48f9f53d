-- The parts of a polynomial of packed terms: those of the highest power come first, and a power is taken out of a monomial by a difference of numbers.
use Rattle.std.specs.Prelude.{◌≡◌, ◌≢◌, Bool, true, false, List, [], ◌∷◌, ◌++◌, ℕ, zero, suc, ◌+◌, ◌-◌, ◌*◌, ◌/◌, ◌%◌, ◌^◌, ◌≤◌, ◌<◌, T, cond, eqb, length, take, drop, get_or, set}
use Rattle.std.proofs.Common.{refl, sym, ◌∙◌, ap, ap₂, subst, le_refl, arith, eq-eqb, eqb→eq}
use Rattle.std.proofs.Math.Nat.{pow-succ', mod-eq_of_lt, mul-le-mul, pow-le-pow_right, sub_self}
use Rattle.std.proofs.Math.ListN.{take-append-drop, drop_of_length-le}
use Rattle.std.proofs.Math.Seq.{length-take-le}
use Rattle.std.proofs.Math.Decide.{dec_lt}
use Rattle.std.specs.List.{prefix_len}
use Rattle.std.proofs.lemmas.List.{take_more, take_more_set}
use Rattle.std.proofs.lemmas.List.Sums.{prefix_len-le-length, prefix_len_stops}
use Rattle.residues.specs.Each.{Each}
use Rattle.residues.specs.laws.Each.{each_append, each_drop}
use Rattle.polynomials.specs.Poly.{Exponents, Term, Poly}
use Rattle.polynomials.specs.Canonical.{Canonical, All}
use Rattle.polynomials.specs.Division.{degree, degrees, highest, leader, coefficient, without, initial, rest}
use Rattle.polynomials.specs.Packed.{bytes, term, terms}
use Rattle.polynomials.specs.declared.Term.{Term as Packed}
use Rattle.polynomials.specs.Working.{Split, Written}
use Rattle.polynomials.specs.laws.Packed.{byte_power}
use Rattle.polynomials.specs.laws.Terms.{length_terms, terms_append, terms_drop, terms_at, terms_push}
use Rattle.polynomials.specs.laws.All.{all_map}
use Rattle.polynomials.specs.laws.Places.{Places, places_terms}
use Rattle.polynomials.specs.laws.Parts.{above_leader, leader_places, leader_first, falling, degree_rest, coefficient_parted}
use Rattle.polynomials.specs.laws.Parts.{without_parted, length_coefficient, coefficient_append, coefficient_of, cleared}
use Rattle.polynomials.specs.laws.Degree.{all_degree, degree_at_most}
use Rattle.polynomials.specs.laws.Bounds.{degree_small}
use Rattle.polynomials.specs.laws.Product.{canonical_drop}
use Rattle.polynomials.specs.laws.Free.{Free}

-- ── a power taken out of a monomial ──
-- d taken from byte k.
lower : (n k w d : ℕ) → k < n → d ≤ get_or (bytes n w) k 0 → (d * 256 ^ k ≤ w) × (bytes n (w - d * 256 ^ k) ≡ set (bytes n w) k (get_or (bytes n w) k 0 - d))
unfolding bytes
lower zero k w d h l = absurd (omega arith)
lower (suc n) zero w d h l = (omega arith, ap₂ ◌∷◌ low (ap (bytes n) high))
  where
    low : (w - d * 256 ^ 0) % 256 ≡ w % 256 - d
    low = omega arith

    high : (w - d * 256 ^ 0) / 256 ≡ w / 256
    high = omega arith
lower (suc n) (suc k) w d h l = go (lower n k (w / 256) d (omega arith) l)
  where
    more : d * 256 ^ suc k ≡ 256 * (d * 256 ^ k)
    more = ap (λ z. d * z) (pow-succ' 256 k) ∙ omega arith

    go : (d * 256 ^ k ≤ w / 256) × (bytes n (w / 256 - d * 256 ^ k) ≡ set (bytes n (w / 256)) k (get_or (bytes n (w / 256)) k 0 - d)) →
        (d * 256 ^ suc k ≤ w) × (bytes (suc n) (w - d * 256 ^ suc k) ≡ w % 256 ∷ set (bytes n (w / 256)) k (get_or (bytes n (w / 256)) k 0 - d))
    go ih = (omega (arith, more, ih.0), ap₂ ◌∷◌ low (ap (bytes n) high ∙ ih.1))
      where
        low : (w - d * 256 ^ suc k) % 256 ≡ w % 256
        low = omega (arith, more, ih.0)

        high : (w - d * 256 ^ suc k) / 256 ≡ w / 256 - d * 256 ^ k
        high = omega (arith, more, ih.0)

pub power_within : (k w d top : ℕ) → k < 8 → d ≤ get_or (bytes 8 w) k 0 → top ≡ d * 256 ^ k → top ≤ w
power_within k w d top h l e = omega (arith, (lower 8 k w d h l).0)

-- A byte shifted to place k.
pub shifted : (k d : ℕ) → k < 8 → d < 256 → d * 2 ^ (8 * k) % 18446744073709551616 ≡ d * 256 ^ k
shifted k d h l = ap (λ z. d * z % 18446744073709551616) (sym (byte_power k)) ∙ mod-eq_of_lt small
  where
    most : d * 256 ^ k ≤ 255 * 256 ^ 7
    most = mul-le-mul {n₁ = d} {n₂ = 255} (omega arith) (pow-le-pow_right {n = 256} (omega arith) {i = k} {j = 7} (omega arith))

    small : d * 256 ^ k < 18446744073709551616
    small = omega (arith, most)

-- ── the first terms ──
-- What a read past the end gives.
abbrev pub blank : Packed
blank = record { coefficient = 0; monomial = 0 }

-- One term more is taken.
pub terms_next : (s : List Packed) (i : ℕ) (t : Packed) → i < length s → terms (take (i + 1) s) ≡ terms (take i s) ++ (term (get_or s i t) ∷ [])
unfolding terms
terms_next s i t h = ap terms (take_more s i t h) ∙ terms_append (take i s) (get_or s i t ∷ [])

parted : (s : List Packed) (i : ℕ) → terms s ≡ terms (take i s) ++ terms (drop i s)
parted s i = ap terms (sym (take-append-drop i s)) ∙ terms_append (take i s) (drop i s)

-- What holds of all terms holds of the one at place i.
pub all_at : (P : Exponents → Type 0) (s : List Packed) (i : ℕ) (t : Packed) → i < length s → All P (terms s) → P (bytes 8 (get_or s i t).monomial)
all_at P s i t h u = (subst (All P) (sym (terms_drop i s) ∙ terms_at s i t h) (each_drop (λ t. P t.exps) i (terms s) u)).0

-- A canonical polynomial, whose leading variable is v(k+1).
abbrev pub Led : ℕ → List Packed → Type 0
Led k s = ((p : ℕ) × Canonical p (terms s)) × (leader (terms s) ≡ k + 1)

-- It has a term.
some_term : (k : ℕ) (s : List Packed) → leader (terms s) ≡ k + 1 → 0 < length s
unfolding terms leader degrees highest
some_term k [] e = absurd (omega arith)
some_term k (t ∷ s) e = omega arith

pub led_some : (k : ℕ) (s : List Packed) → Led k s → 0 < length s
led_some k s L = some_term k s L.1

led_place : (k : ℕ) (s : List Packed) → Led k s → k < 8
led_place k s L = omega (arith, L.1, leader_places 8 (terms s) (places_terms s))

pub leader_none : (s : List Packed) → length s ≡ 0 → leader (terms s) ≡ 0
unfolding terms leader degrees highest
leader_none [] h = refl
leader_none (t ∷ s) h = absurd (omega arith)

-- The leading variable stands in the first term.
pub leader_packed : (p : ℕ) (s : List Packed) (t : Packed) → Canonical p (terms s) → 0 < length s → leader (terms s) ≡ highest (bytes 8 (get_or s 0 t).monomial)
unfolding terms
leader_packed p [] t c h = absurd (omega arith)
leader_packed p (x ∷ s) t c h = leader_first p 8 (term x) (terms s) c (places_terms (x ∷ s))

-- ── the terms of the highest power come first ──
-- As laws.Parts has it of a polynomial with a first term.
falling_from : (p k n : ℕ) (f : Poly) (t : Term) (g : Poly) → f ≡ t ∷ g → Canonical p f → Places n f → ((j : ℕ) → k < j → Free j f) → All (λ e. get_or e k 0 ≤ get_or t.exps k 0) f
falling_from p k n f t g q = subst (λ h. Canonical p h → Places n h → ((j : ℕ) → k < j → Free j h) → All (λ e. get_or e k 0 ≤ get_or t.exps k 0) h) (sym q) (falling p k n t g)

-- The exponent of v(k+1) in a term, and whether it is d.
abbrev pub power_of : ℕ → Packed → ℕ
power_of k t = get_or (bytes 8 t.monomial) k 0

abbrev pub is_power : ℕ → ℕ → Packed → Bool
is_power k d t = eqb (power_of k t) d

-- The first terms of that power.
front : (k d : ℕ) (s : List Packed) → All (λ e. get_or e k 0 ≡ d) (terms (take (prefix_len (is_power k d) s) s))
unfolding terms
front k d [] = tt
front k d (t ∷ s) = go (is_power k d t) (eqb→eq (power_of k t) d) (front k d s)
  where
    n : ℕ
    n = prefix_len (is_power k d) s

    next : suc n ≡ 1 + n
    next = omega arith

    go : (b : Bool) → (T b → power_of k t ≡ d) → All (λ e. get_or e k 0 ≡ d) (terms (take n s)) → All (λ e. get_or e k 0 ≡ d) (terms (take (cond b (1 + n) 0) (t ∷ s)))
    go true q u = subst (λ (m : ℕ). All (λ e. get_or e k 0 ≡ d) (terms (take m (t ∷ s)))) next (q tt, u)
    go false q u = tt

module _ (k : ℕ) (s : List Packed) (L : Led k s) where
  abbrev top : ℕ
  top = degree k (terms s)

  bounded : (i : ℕ) → i < length s → power_of k (get_or s i blank) ≤ top
  bounded i h = all_at (λ a. get_or a k 0 ≤ top) s i blank h (all_degree k top (terms s) (le_refl top))

  -- Behind a term no power is higher.
  behind : (i : ℕ) → i < length s → All (λ e. get_or e k 0 ≤ power_of k (get_or s i blank)) (terms (drop i s))
  behind i h =
      falling_from L.0.0 k 8 (terms (drop i s)) _ _ (terms_at s i blank h)
      (subst (Canonical L.0.0) (sym (terms_drop i s)) (canonical_drop L.0.0 i (terms s) L.0.1)) (places_terms (drop i s))
      (λ j l. subst (Free j) (sym (terms_drop i s)) (each_drop (λ t. get_or t.exps j 0 ≡ 0) i (terms s) (above_leader (terms s) j (omega (arith, L.1)))))

  -- The first term has the highest power.
  pub top_first : power_of k (get_or s 0 blank) ≡ top
  top_first = omega (arith, bounded 0 (led_some k s L), degree_at_most k (power_of k (get_or s 0 blank)) (terms s) (behind 0 (led_some k s L)))

  pub top_shifted : (e : ℕ) → e ≡ power_of k (get_or s 0 blank) → e * 2 ^ (8 * k) % 18446744073709551616 ≡ top * 256 ^ k
  top_shifted e q = ap (λ z. z * 2 ^ (8 * k) % 18446744073709551616) (q ∙ top_first) ∙ shifted k top (led_place k s L) (omega (arith, degree_small k s))

  -- The first n terms have it, and those behind them do not.
  split : (n : ℕ) → n ≤ length s → All (λ e. get_or e k 0 ≡ top) (terms (take n s)) → All (λ e. get_or e k 0 ≢ top) (terms (drop n s)) → Split k s n
  unfolding initial rest
  split n h u v = record {
    count = omega (arith, ap length whole, length_coefficient k top (terms (take n s)) u, length_terms (take n s), length-take-le n s h);
    within = h;
    front = u;
    behind = sym (ap (without k top) (parted s n) ∙ without_parted k top (terms (take n s)) (terms (drop n s)) u v);
  }
    where
      whole : coefficient k top (terms s) ≡ coefficient k top (terms (take n s))
      whole = ap (coefficient k top) (parted s n) ∙ coefficient_parted k top (terms (take n s)) (terms (drop n s)) u v

  lower_behind : (n : ℕ) → n < length s → is_power k top (get_or s n blank) ≡ false → All (λ e. get_or e k 0 ≢ top) (terms (drop n s))
  lower_behind n h o =
      all_map (λ e. get_or e k 0 ≤ power_of k (get_or s n blank)) (λ e. get_or e k 0 ≢ top) (terms (drop n s))
      (λ (a : Exponents) (l : get_or a k 0 ≤ power_of k (get_or s n blank)) (q : get_or a k 0 ≡ top).
      let e = eq-eqb (power_of k (get_or s n blank)) top (omega (arith, bounded n h)) in cc) (behind n h)

  pub split_prefix : Split k s (prefix_len (is_power k top) s)
  unfolding terms
  split_prefix = split n (prefix_len-le-length (is_power k top) s) (front k top s) (elim (dec_lt n (length s)) [
    | yes h ↦ lower_behind n h (prefix_len_stops (is_power k top) s blank h)
    | no h ↦ let h' : ¬ (n < length s) = h in none (drop n s) (drop_of_length-le s {i = n} (omega arith))
  ])
    where
      n : ℕ
      n = prefix_len (is_power k top) s

      none : (u : List Packed) → u ≡ [] → All (λ e. get_or e k 0 ≢ top) (terms u)
      none u q = subst (λ u. All (λ e. get_or e k 0 ≢ top) (terms u)) (sym q) tt

  -- The terms in front are those of the initial.
  split_initial : (n : ℕ) → Split k s n → initial k (terms s) ≡ coefficient k top (terms (take n s))
  unfolding initial
  split_initial n S =
      ap (coefficient k top) (parted s n)
      ∙ coefficient_parted k top (terms (take n s)) (terms (drop n s)) S.front (subst (All (λ e. get_or e k 0 ≢ top)) (sym S.behind) lower_powers)
    where
      lower_powers : All (λ e. get_or e k 0 ≢ top) (rest k (terms s))
      lower_powers =
          all_map (λ e. get_or e k 0 ≤ degree k (rest k (terms s))) (λ e. get_or e k 0 ≢ top) (rest k (terms s))
          (λ (a : Exponents) (l : get_or a k 0 ≤ degree k (rest k (terms s))) (q : get_or a k 0 ≡ top). omega (arith, degree_rest k (terms s) L.1))
          (all_degree k (degree k (rest k (terms s))) (rest k (terms s)) (le_refl (degree k (rest k (terms s)))))

  pub initial_written : (n : ℕ) (out : List Packed) → Split k s n → n ≤ length out → terms (take n out) ≡ coefficient k top (terms (take n s)) → Written (initial k (terms s)) n out
  initial_written n out S h q = record { within = h; holds = q ∙ sym (split_initial n S) }

-- ── terms with a power taken out, written behind one another ──
abbrev pub lowered : Packed → ℕ → Packed
lowered t m = record { coefficient = t.coefficient; monomial = t.monomial - m }

pub lowered_in_words : (out : List Packed) (i : ℕ) (t : Packed) (m : ℕ) → i < length out → t.monomial < 2 ^ 64
    → Each (λ t. t.monomial < 2 ^ 64) (take i out) → Each (λ t. t.monomial < 2 ^ 64) (take (i + 1) (set out i (lowered t m)))
lowered_in_words out i t m inside word u =
    let P : Packed → Type 0 = λ (t : Packed). t.monomial < 2 ^ 64 in
    subst (Each P) (sym (take_more_set out i (lowered t m) inside))
    ((each_append P (take i out) (lowered t m ∷ [])).1 (u, (omega (arith, word), tt)))

pub lowered_term : (k : ℕ) (t : Packed) (e d : ℕ) → k < 8 → power_of k t ≡ e → d ≤ e → term (lowered t (d * 256 ^ k)) ≡ record { coef = t.coefficient; exps = set (bytes 8 t.monomial) k (e - d) }
lowered_term k t e d h q l = ap (λ z. record { coef = t.coefficient; exps = z }) ((lower 8 k t.monomial d h (omega arith)).1 ∙ ap (λ z. set (bytes 8 t.monomial) k (z - d)) q)

module _ (k : ℕ) (s : List Packed) (i : ℕ) (u : Packed) (inside : i < length s) where
  abbrev t : Packed
  t = get_or s i u

  pub coefficient_next : (d : ℕ) → power_of k t ≡ d → coefficient k d (terms (take (i + 1) s)) ≡ coefficient k d (terms (take i s)) ++ (cleared k (term t) ∷ [])
  unfolding coefficient
  coefficient_next d q = ap (coefficient k d) (terms_next s i u inside) ∙ coefficient_append k d (terms (take i s)) (term t ∷ [])
      ∙ ap (λ z. coefficient k d (terms (take i s)) ++ z) (coefficient_of k d (term t) [] q)

  module _ (out : List Packed) (l top d : ℕ) (k<8 : k < 8) (room : l < length out) (is_top : top ≡ d * 256 ^ k) where
    -- The term is written with the power d taken out.
    pub pushed : terms (take (l + 1) (set out l (lowered t top))) ≡ terms (take l out) ++ (term (lowered t (d * 256 ^ k)) ∷ [])
    pushed = terms_push out l (lowered t top) room ∙ ap (λ z. terms (take l out) ++ (term (lowered t z) ∷ [])) is_top

    -- From terms of that power.
    pub initial_next : power_of k t ≡ d → terms (take l out) ≡ coefficient k d (terms (take i s)) → terms (take (l + 1) (set out l (lowered t top))) ≡ coefficient k d (terms (take (i + 1) s))
    initial_next q h =
        pushed
        ∙ ap₂ (λ f u. f ++ (u ∷ [])) h (lowered_term k t d d k<8 q (le_refl d) ∙ ap (λ z. record { coef = t.coefficient; exps = set (bytes 8 t.monomial) k z }) (sub_self d))
        ∙ sym (coefficient_next d q)
