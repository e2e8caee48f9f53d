-- The sums of two monomials' exponents: eight are all.
use Rattle.std.specs.Prelude.{◌≡◌, Bool, true, false, ◌||◌, ℕ, zero, suc, ◌+◌, ◌/◌, ◌%◌, ◌≤◌, ◌<◌, get_or}
use Rattle.std.proofs.Common.{refl, sym, ◌∙◌, ap₂, subst, zero-add, le-ltb, arith}
use Rattle.std.specs.Bool.{MatchBool}
use Rattle.std.specs.List.{range_with_len, HoldsAt, AllWithin}
use Rattle.std.proofs.lemmas.List.FromFn.{get_or-range_with_len}
use Rattle.polynomials.specs.Poly.{join}
use Rattle.polynomials.specs.Packed.{bytes}
use Rattle.polynomials.specs.Bounds.{at_most, over, some_over}
use Rattle.polynomials.specs.laws.Degree.{at_join}
use Rattle.polynomials.specs.laws.Bounds.{over_at}

bytes_within : (n m a b : ℕ) → ((k : ℕ) → k < n → get_or (bytes n a) k 0 + get_or (bytes n b) k 0 ≤ m) → some_over (at_most m) (join (bytes n a) (bytes n b)) ≡ false
unfolding bytes join some_over over
bytes_within zero m a b h = refl
bytes_within (suc n) m a b h = ap₂ ◌||◌ (le-ltb m (a % 256 + b % 256) (h 0 (omega arith))) (bytes_within n m (a / 256) (b / 256) (λ k l. h (suc k) (omega arith)))

-- What `any` answers of them.
module _ (m a b : ℕ) where
  abbrev pub sum_at : ℕ → ℕ
  sum_at k = get_or (bytes 8 a) k 0 + get_or (bytes 8 b) k 0

  pub passes_told : (r : Bool) →
      MatchBool r ((i : ℕ) × (i < 8) × HoldsAt (λ k. m < sum_at k) (range_with_len 0 8) i) (AllWithin (λ k. sum_at k ≤ m) (range_with_len 0 8) 0 8) →
      r ≡ some_over (at_most m) (join (bytes 8 a) (bytes 8 b))
  passes_told true (i, l, over) =
      let k = get_or (range_with_len 0 8) i 0 in
      sym (over_at m k (join (bytes 8 a) (bytes 8 b)) (omega (arith, at_join k (bytes 8 a) (bytes 8 b), over 0)))
  passes_told false none =
      sym (bytes_within 8 m a b (λ k l. subst (λ j. sum_at j ≤ m) (get_or-range_with_len 0 8 k 0 l ∙ zero-add k) (none k 0 (omega arith) l)))
