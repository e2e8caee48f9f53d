-- What a maximum over the terms, an or over their monomials, and a test of eight variables tell of degrees.
use Rattle.std.specs.Prelude.{◌≡◌, List, [], ◌∷◌, Bool, true, false, ℕ, zero, suc, ◌+◌, ◌/◌, ◌%◌, ◌≤◌, ◌<◌, max, map, ltb, get_or}
use Rattle.std.proofs.Common.{sym, ◌∙◌, subst, refl, arith, zero-add, ltb-true, ltb-false, bit_or}
use Rattle.std.specs.Option.{unwrap_or}
use Rattle.std.specs.Ordering.{max_by_ordering, nat_cmp}
use Rattle.std.specs.Bool.{MatchBool}
use Rattle.std.specs.List.{fold, reduce, range_with_len, HoldsAt, AllWithin}
use Rattle.std.proofs.lemmas.Nat.{le_or_l, le_or_r, or_shr, or_mod}
use Rattle.std.proofs.lemmas.List.Folds.{max_of_map}
use Rattle.std.proofs.lemmas.List.FromFn.{get_or-range_with_len}
use Rattle.polynomials.specs.Poly.{Poly, join}
use Rattle.polynomials.specs.Division.{degree}
use Rattle.polynomials.specs.Packed.{bytes, terms}
use Rattle.polynomials.specs.declared.Term.{Term as Packed}
use Rattle.polynomials.specs.Bounds.{at_most, some_over, degrees_over}
use Rattle.polynomials.specs.laws.Degree.{at_join}
use Rattle.polynomials.specs.laws.Bounds.{over_none, no_degrees_over, degrees_over_at, degree_past}

-- ── the largest exponent ──
abbrev pub exponent_at : ℕ → Packed → ℕ
exponent_at k t = get_or (bytes 8 t.monomial) k 0

fold_degree : (k d : ℕ) (f : List Packed) → fold (λ a t. max a (exponent_at k t)) d f ≡ max d (degree k (terms f))
unfolding degree terms
fold_degree k d [] = omega arith
fold_degree k d (t ∷ f) = omega (arith, fold_degree k (max d (exponent_at k t)) f)

pub max_degree : (k : ℕ) (f : List Packed) → unwrap_or (reduce (λ p z. max_by_ordering (nat_cmp p z) p z) (map (exponent_at k) f)) 0 ≡ degree k (terms f)
max_degree k f = max_of_map (exponent_at k) f ∙ fold_degree k 0 f ∙ omega arith

-- ── an or of monomials ──
-- No byte of an or is below one of its words'.
or_bytes : (n a b k : ℕ) → (get_or (bytes n a) k 0 ≤ get_or (bytes n (bit_or a b)) k 0) × (get_or (bytes n b) k 0 ≤ get_or (bytes n (bit_or a b)) k 0)
unfolding bytes
or_bytes zero a b k = (omega arith, omega arith)
or_bytes (suc n) a b zero = subst (λ z. (a % 256 ≤ z) × (b % 256 ≤ z)) (sym (or_mod a b 8)) (le_or_l (a % 256) (b % 256), le_or_r (a % 256) (b % 256))
or_bytes (suc n) a b (suc k) =
    subst (λ (z : ℕ). (get_or (bytes n (a / 256)) k 0 ≤ get_or (bytes n z) k 0) × (get_or (bytes n (b / 256)) k 0 ≤ get_or (bytes n z) k 0)) (sym (or_shr a b 8)) (or_bytes n (a / 256) (b / 256) k)

pub or_degree : (m k : ℕ) (f : List Packed) → max (get_or (bytes 8 m) k 0) (degree k (terms f)) ≤ get_or (bytes 8 (fold (λ a t. bit_or a t.monomial) m f)) k 0
unfolding degree terms
or_degree m k [] = omega arith
or_degree m k (t ∷ f) = omega (arith, or_degree (bit_or m t.monomial) k f, or_bytes 8 m t.monomial k)

-- ── sums of degrees ──
-- Words above all degrees whose bytes sum to at most m.
pub unions_within : (m u v : ℕ) (f g : Poly) → ((k : ℕ) → degree k f ≤ get_or (bytes 8 u) k 0) → ((k : ℕ) → degree k g ≤ get_or (bytes 8 v) k 0) →
    some_over (at_most m) (join (bytes 8 u) (bytes 8 v)) ≡ false → degrees_over (at_most m) f g ≡ false
unions_within m u v f g hf hg h =
    no_degrees_over m f g (λ k. omega (arith, hf k, hg k, at_join k (bytes 8 u) (bytes 8 v), over_none m (join (bytes 8 u) (bytes 8 v)) h k))

-- Eight sums of degrees are all: what `any` answers of them.
module _ (m : ℕ) (s t : List Packed) where
  abbrev pub sum_at : ℕ → ℕ
  sum_at k = degree k (terms s) + degree k (terms t)

  pub degrees_told : (r : Bool) →
      MatchBool r ((i : ℕ) × (i < 8) × HoldsAt (λ k. m < sum_at k) (range_with_len 0 8) i) (AllWithin (λ k. sum_at k ≤ m) (range_with_len 0 8) 0 8) →
      r ≡ degrees_over (at_most m) (terms s) (terms t)
  degrees_told true (i, l, over) = sym (degrees_over_at m (get_or (range_with_len 0 8) i 0) (terms s) (terms t) (over 0))
  degrees_told false none = sym (no_degrees_over m (terms s) (terms t) (λ k. go k (ltb k 8) refl))
    where
      go : (k : ℕ) (b : Bool) → ltb k 8 ≡ b → sum_at k ≤ m
      go k true e = let l : k < 8 = ltb-true k 8 e in subst (λ j. sum_at j ≤ m) (get_or-range_with_len 0 8 k 0 l ∙ zero-add k) (none k 0 (omega arith) l)
      go k false e = omega (arith, degree_past k s (ltb-false k 8 e), degree_past k t (ltb-false k 8 e))
