-- The pivot by a pass from the left over the ranks: the best so far gives way only to one of lower rank.
use mathlib.Core.Path.{◌≡◌, refl, sym, ap, ap₂, ◌∙◌}
use mathlib.Core.Logic.{◌≢◌}
use mathlib.Core.Bool.{Bool, true, false, not, ◌&&◌, ◌||◌}
use mathlib.Core.List.{List, [], ◌∷◌, map}
use Prim.Native.Nat.{ℕ, suc, ◌+◌, ◌-◌, ◌*◌, ◌≤◌, ◌<◌}
use native.Mathlib.Decide.{ℕ_discrete, dec_lt}
use native.Mathlib.Omega.{arith}
use borrow.Author.Tests.{lt-ltb, le-ltb, ltb-true, ltb-false, eq-eqb, ne_eqb}
use lib.Dec.{eqb, ltb}
use lib.ListN.{length, get_or}
use Rattle.residues.specs.Each.{Each}
use Rattle.polynomials.specs.Poly.{Poly}
use Rattle.polynomials.specs.Canonical.{All}
use Rattle.polynomials.specs.Division.{degree, leader}
use Rattle.polynomials.specs.Packed.{bytes, terms}
use Rattle.polynomials.specs.Working.{Holds}
use Rattle.polynomials.specs.laws.Packed.{byte_small}
use Rattle.polynomials.specs.laws.Degree.{degree_at_most}
use Rattle.polynomials.specs.laws.Terms.{length_terms}
use Rattle.rules.specs.Branch.{led_by, Chosen, better, prefer, pivot}
use Rattle.search.specs.Rank.{rank}
use Rattle.records.specs.Records.{Rec, view}
use Rattle.records.proofs.Rows.{length_view}
use Rattle.stored.specs.Stored.{size_at, poly_at, polys_at}
use Rattle.stored.specs.laws.Stored.{length_poly_at}
use Rattle.stored.proofs.Laws.{size_in, past}
use Rattle.heads.specs.Heads.{AllHold}
use Rattle.heads.proofs.Walk.{all_at, all_on, hold_here, hold_on, first_at, no_leader_at, led_some, degree_at_first, passing}
use Rattle.search.specs.Search.{pivot_place}
use Rattle.polynomials.specs.declared.Term.{Term as Packed}

-- ── ranks ──
-- Bounds under which the rank orders degrees, and then terms.
abbrev pub Bounded : ℕ → Poly → Type 0
Bounded k f = (degree k f < 256) × (length f < 512)

module _ (k : ℕ) where
  rank_led : (f : Poly) → leader f ≡ suc k → rank k f ≡ 512 * degree k f + length f
  unfolding rank led_by
  rank_led f e = ap (λ (b : Bool). elim b as (λ b. ℕ) [ true ↦ 512 * degree k f + length f | false ↦ 131072 ]) (eq-eqb (leader f) (suc k) e)

  rank_unled : (f : Poly) → leader f ≢ suc k → rank k f ≡ 131072
  unfolding rank led_by
  rank_unled f n = ap (λ (b : Bool). elim b as (λ b. ℕ) [ true ↦ 512 * degree k f + length f | false ↦ 131072 ]) (ne_eqb (leader f) (suc k) n)

  lexicographic : (d n e m : ℕ) → n < 512 → m < 512 → (ltb d e || (eqb d e && ltb n m)) ≡ ltb (512 * d + n) (512 * e + m)
  lexicographic d n e m h l = elim (dec_lt d e) [ yes a ↦ less a | no a ↦ elim (ℕ_discrete d e) [ yes b ↦ same b | no b ↦ more (above a b) ] ]
    where
      above : ¬ (d < e) → d ≢ e → e < d
      above a b = omega arith

      less : d < e → (ltb d e || (eqb d e && ltb n m)) ≡ ltb (512 * d + n) (512 * e + m)
      less a = ap (λ (b : Bool). b || (eqb d e && ltb n m)) (lt-ltb d e a) ∙ sym (lt-ltb (512 * d + n) (512 * e + m) (omega arith))

      more : e < d → (ltb d e || (eqb d e && ltb n m)) ≡ ltb (512 * d + n) (512 * e + m)
      more a =
          ap₂ (λ (b c : Bool). b || (c && ltb n m)) (le-ltb d e (omega arith)) (ne_eqb d e (λ (q : d ≡ e). omega arith))
          ∙ sym (le-ltb (512 * d + n) (512 * e + m) (omega arith))

      same : d ≡ e → (ltb d e || (eqb d e && ltb n m)) ≡ ltb (512 * d + n) (512 * e + m)
      same q = ap₂ (λ (b c : Bool). b || (c && ltb n m)) (le-ltb d e (omega arith)) (eq-eqb d e q) ∙ shift (dec_lt n m)
        where
          shift : Dec (n < m) → ltb n m ≡ ltb (512 * d + n) (512 * e + m)
          shift (yes a) = lt-ltb n m a ∙ sym (lt-ltb (512 * d + n) (512 * e + m) (omega arith))
          shift (no a) = let a' : ¬ (n < m) = a in le-ltb n m (omega arith) ∙ sym (le-ltb (512 * d + n) (512 * e + m) (omega arith))

  -- One is better than another where its rank is lower.
  better_rank : (g f : Poly) → Bounded k g → Bounded k f → better k g f ≡ ltb (rank k g) (rank k f)
  unfolding better rank
  better_rank g f u w = go (led_by (suc k) g) (led_by (suc k) f)
    where
      go : (a b : Bool) →
          (a && (not b || (ltb (degree k g) (degree k f) || (eqb (degree k g) (degree k f) && ltb (length g) (length f)))))
          ≡ ltb (elim a as (λ a. ℕ) [ true ↦ 512 * degree k g + length g | false ↦ 131072 ]) (elim b as (λ b. ℕ) [ true ↦ 512 * degree k f + length f | false ↦ 131072 ])
      go true true = lexicographic (degree k g) (length g) (degree k f) (length f) u.1 w.1
      go true false = sym (lt-ltb (512 * degree k g + length g) 131072 (omega (arith, u.0, u.1)))
      go false true = sym (le-ltb 131072 (512 * degree k f + length f) (omega (arith, w.0, w.1)))
      go false false = sym (le-ltb 131072 131072 (omega arith))

  rank_at_most : (f : Poly) → Bounded k f → rank k f ≤ 131072
  unfolding rank
  rank_at_most f u = go (led_by (suc k) f)
    where
      go : (b : Bool) → (elim b as (λ b. ℕ) [ true ↦ 512 * degree k f + length f | false ↦ 131072 ]) ≤ 131072
      go true = omega (arith, u.0, u.1)
      go false = omega arith

  -- ── the pass ──
  -- The place of the best, with the best so far at `place`, of rank `least`, and fs from place j on still to come.
  unfoldable pub passed : ℕ → ℕ → ℕ → List Poly → ℕ
  passed place least j [] = place
  passed place least j (f ∷ fs) = elim (ltb (rank k f) least) [ true ↦ passed j (rank k f) (j + 1) fs | false ↦ passed place least (j + 1) fs ]

  passed_lower : (place least j : ℕ) (f : Poly) (fs : List Poly) → rank k f < least → passed place least j (f ∷ fs) ≡ passed j (rank k f) (j + 1) fs
  unfolding passed
  passed_lower place least j f fs h =
      ap (λ (b : Bool). elim b as (λ b. ℕ) [ true ↦ passed j (rank k f) (j + 1) fs | false ↦ passed place least (j + 1) fs ]) (lt-ltb (rank k f) least h)

  passed_by : (place least j : ℕ) (f : Poly) (fs : List Poly) → least ≤ rank k f → passed place least j (f ∷ fs) ≡ passed place least (j + 1) fs
  unfolding passed
  passed_by place least j f fs h =
      ap (λ (b : Bool). elim b as (λ b. ℕ) [ true ↦ passed j (rank k f) (j + 1) fs | false ↦ passed place least (j + 1) fs ]) (le-ltb (rank k f) least h)

  -- What the pass finds: the pivot of those to come where its rank is lower, and the best so far otherwise.
  abbrev Finds : ℕ → ℕ → ℕ → List Poly → Chosen → Type 0
  Finds place least j fs c =
      (rank k c.poly < least → passed place least j fs ≡ j + c.place) × (least ≤ rank k c.poly → passed place least j fs ≡ place)

  pivot_bounded : (f : Poly) (fs : List Poly) → Each (Bounded k) (f ∷ fs) → Bounded k (pivot k f fs).poly
  unfolding pivot
  pivot_bounded f [] u = u.0
  pivot_bounded f (g ∷ fs) u = go (better k (pivot k g fs).poly f) (pivot_bounded g fs u.1)
    where
      go : (b : Bool) → Bounded k (pivot k g fs).poly → Bounded k (prefer b f (pivot k g fs)).poly
      go true ih = ih
      go false ih = u.0

  passed_finds : (f : Poly) (fs : List Poly) → Each (Bounded k) (f ∷ fs) → (place least j : ℕ) → Finds place least j (f ∷ fs) (pivot k f fs)
  unfolding pivot passed
  passed_finds f [] u place least j = (λ h. passed_lower place least j f [] h ∙ end j (rank k f) (j + 1) ∙ plus, λ h. passed_by place least j f [] h ∙ end place least (j + 1))
    where
      end : (place least j : ℕ) → passed place least j [] ≡ place
      end place least j = refl

      plus : j ≡ j + 0
      plus = omega arith
  passed_finds f (g ∷ fs) u place least j =
      go (better k (pivot k g fs).poly f) (pivot k g fs) (better_rank (pivot k g fs).poly f (pivot_bounded g fs u.1) u.0)
      (passed_finds g fs u.1 j (rank k f) (j + 1)) (passed_finds g fs u.1 place least (j + 1))
    where
      go : (b : Bool) (c : Chosen) → b ≡ ltb (rank k c.poly) (rank k f) → Finds j (rank k f) (j + 1) (g ∷ fs) c → Finds place least (j + 1) (g ∷ fs) c
          → Finds place least j (f ∷ (g ∷ fs)) (prefer b f c)
      go true c e new old = (λ (h : rank k c.poly < least). front h (dec_lt (rank k f) least), λ (h : least ≤ rank k c.poly). passed_by place least j f (g ∷ fs) (omega (arith, lower)) ∙ old.1 h)
        where
          lower : rank k c.poly < rank k f
          lower = ltb-true (rank k c.poly) (rank k f) (sym e)

          next : j + 1 + c.place ≡ j + suc c.place
          next = omega arith

          front : rank k c.poly < least → Dec (rank k f < least) → passed place least j (f ∷ (g ∷ fs)) ≡ j + suc c.place
          front h (yes a) = passed_lower place least j f (g ∷ fs) a ∙ new.0 lower ∙ next
          front h (no a) = let a' : ¬ (rank k f < least) = a in passed_by place least j f (g ∷ fs) (omega arith) ∙ old.0 h ∙ next
      go false c e new old = (
        λ (h : rank k f < least). passed_lower place least j f (g ∷ fs) h ∙ new.1 no_lower ∙ here,
        λ (h : least ≤ rank k f). passed_by place least j f (g ∷ fs) h ∙ old.1 (omega (arith, no_lower)),
      )
        where
          no_lower : rank k f ≤ rank k c.poly
          no_lower = ltb-false (rank k c.poly) (rank k f) (sym e)

          here : j ≡ j + 0
          here = omega arith

  -- A pivot that v(k+1) does not lead is the first.
  unled_first : (f : Poly) (fs : List Poly) → Each (Bounded k) (f ∷ fs) → 131072 ≤ rank k (pivot k f fs).poly → (pivot k f fs).place ≡ 0
  unfolding pivot
  unled_first f [] u h = refl
  unled_first f (g ∷ fs) u h = go (better k (pivot k g fs).poly f) (pivot k g fs) (better_rank (pivot k g fs).poly f (pivot_bounded g fs u.1) u.0) h
    where
      go : (b : Bool) (c : Chosen) → b ≡ ltb (rank k c.poly) (rank k f) → 131072 ≤ rank k (prefer b f c).poly → (prefer b f c).place ≡ 0
      go true c e l = absurd (omega (arith, ltb-true (rank k c.poly) (rank k f) (sym e), rank_at_most f u.0))
      go false c e l = refl

  -- The pass over all, with nothing found before.
  passed_all : (fs : List Poly) → Each (Bounded k) fs → passed 0 131072 0 fs ≡ pivot_place k fs
  unfolding passed
  passed_all [] u = refl
  passed_all (f ∷ fs) u = go (dec_lt (rank k (pivot k f fs).poly) 131072)
    where
      go : Dec (rank k (pivot k f fs).poly < 131072) → passed 0 131072 0 (f ∷ fs) ≡ (pivot k f fs).place
      go (yes a) = (passed_finds f fs u 0 131072 0).0 a ∙ here
        where
          here : 0 + (pivot k f fs).place ≡ (pivot k f fs).place
          here = omega arith
      go (no a) =
          let a' : ¬ (rank k (pivot k f fs).poly < 131072) = a in
          let l : 131072 ≤ rank k (pivot k f fs).poly = omega arith in
          (passed_finds f fs u 0 131072 0).1 l ∙ sym (unled_first f fs u l)

  -- ── stored polynomials ──
  small_exponents : (s : List Packed) → All (λ e. get_or e k 0 ≤ 255) (terms s)
  unfolding terms
  small_exponents [] = tt
  small_exponents (t ∷ s) = (omega (arith, byte_small 8 t.monomial k), small_exponents s)

  holds_bounded : (p : ℕ) (s : List Packed) → Holds p s → Bounded k (terms s)
  holds_bounded p s h = (omega (arith, degree_at_most k 255 (terms s) (small_exponents s)), omega (arith, length_terms s, h.few))

  all_hold_bounded : (p : ℕ) (ss : List (List Packed)) → AllHold p ss → Each (Bounded k) (map terms ss)
  all_hold_bounded p [] h = tt
  all_hold_bounded p (s ∷ ss) h = (holds_bounded p s h.0, all_hold_bounded p ss h.1)

  pub passed_polys : (v : List Rec) (i n : ℕ) → ((p : ℕ) × AllHold p (polys_at v i n)) → passed 0 131072 0 (all_at v i n) ≡ pivot_place k (all_at v i n)
  passed_polys v i n h = passed_all (all_at v i n) (all_hold_bounded h.0 (polys_at v i n) h.1)

  pub passed_end : (place least j : ℕ) (v : List Rec) (i n : ℕ) → n ≡ 0 → passed place least j (all_at v i n) ≡ place
  unfolding passed
  passed_end place least j v i n e = ap (λ (m : ℕ). passed place least j (all_at v i m)) e

  -- A turn at record i, after j of n: the polynomial there takes the place of the best so far where its rank is lower.
  module _ (place least : ℕ) (w : List (List ℕ)) (i n j : ℕ) (some : j < n) where
    pub passed_lower_on : rank k (terms (poly_at (view w) i)) < least
        → passed place least j (all_at (view w) i (n - j)) ≡ passed j (rank k (terms (poly_at (view w) i))) (j + 1) (all_at (view w) (past w i) (n - (j + 1)))
    passed_lower_on h =
        ap (passed place least j) (all_on w i n j some)
        ∙ passed_lower place least j (terms (poly_at (view w) i)) (all_at (view w) (past w i) (n - (j + 1))) h

    pub passed_by_on : least ≤ rank k (terms (poly_at (view w) i))
        → passed place least j (all_at (view w) i (n - j)) ≡ passed place least (j + 1) (all_at (view w) (past w i) (n - (j + 1)))
    passed_by_on h =
        ap (passed place least j) (all_on w i n j some)
        ∙ passed_by place least j (terms (poly_at (view w) i)) (all_at (view w) (past w i) (n - (j + 1))) h

-- The rank by the head and the first term.
module _ (k : ℕ) (v : List Rec) (i : ℕ) where
  pub rank_at_unled : leader (terms (poly_at v i)) ≢ k + 1 → rank k (terms (poly_at v i)) ≡ 131072
  rank_at_unled n = rank_unled k (terms (poly_at v i)) (λ (e : leader (terms (poly_at v i)) ≡ suc k). n (omega arith))

  pub rank_at_led : ((p : ℕ) × Holds p (poly_at v i)) → i + 1 + size_at v i ≤ length v → leader (terms (poly_at v i)) ≡ k + 1
      → rank k (terms (poly_at v i)) ≡ 512 * get_or (bytes 8 (first_at v i).monomial) k 0 + size_at v i
  rank_at_led h fits e =
      let led : leader (terms (poly_at v i)) ≡ suc k = omega arith in
      let power = degree_at_first v i h (led_some v i k led) fits k led in
      let count : length (terms (poly_at v i)) ≡ size_at v i = omega (arith, length_terms (poly_at v i), length_poly_at v i fits) in
      rank_led k (terms (poly_at v i)) led ∙ (λ t. 512 * power t + count t)

-- ── what each function's proof takes ──
pub ruleset ranks = (length_view, size_in, no_leader_at, byte_small, rank_at_unled, rank_at_led)

pub ruleset passes = (passing, hold_here, hold_on, passed_lower_on, passed_by_on, passed_end, passed_polys)
