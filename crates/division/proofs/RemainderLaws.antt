-- The rounds of a division, one at a time: what at most n rounds from R on form, as a caller's loop meets each round.
use Rattle.std.specs.Prelude.{◌≡◌, refl, Bool, true, false, ℕ, zero, suc, ◌≤◌, ◌<◌}
use Rattle.std.proofs.Common.{ap, arith, le-leb}
use Rattle.std.proofs.lemmas.Bool.{lt-leb}
use Rattle.polynomials.specs.Poly.{Poly}
use Rattle.polynomials.specs.Division.{degree}
use Rattle.polynomials.specs.Bounds.{Bounds, Bounded, within, and_then, bounded_round, bounded_remainder}

module _ (s : Bounds) (p k d : ℕ) (T R : Poly) where
  abbrev by_test : ℕ → Bool → Bounded
  by_test n o = elim o [ true ↦ and_then (bounded_round s p k d T R) (bounded_remainder s p k d T n) | false ↦ within R ]

  -- R is the remainder.
  pub remainder_done : (n : ℕ) → degree k R < d → bounded_remainder s p k d T n R ≡ within R
  unfolding bounded_remainder
  remainder_done zero h = refl
  remainder_done (suc n) h = ap (by_test n) (lt-leb d (degree k R) h)

  -- No round is left.
  pub remainder_left : bounded_remainder s p k d T 0 R ≡ within R
  unfolding bounded_remainder
  remainder_left = refl

  -- Another round.
  pub remainder_next : (n : ℕ) → d ≤ degree k R → bounded_remainder s p k d T (suc n) R ≡ and_then (bounded_round s p k d T R) (bounded_remainder s p k d T n)
  unfolding bounded_remainder
  remainder_next n h = ap (by_test n) (le-leb d (degree k R) h)

  pub remainder_again : (n : ℕ) → degree k R < n → d ≤ degree k R
      → (m : ℕ) × (n ≡ suc m) × (bounded_remainder s p k d T n R ≡ and_then (bounded_round s p k d T R) (bounded_remainder s p k d T m))
  remainder_again zero l h = absurd (omega arith)
  remainder_again (suc n) l h = (n, refl, remainder_next n h)
