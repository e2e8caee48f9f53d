-- What a pivot tells: of its modulus, and of what a round by it forms.
use Rattle.std.proofs.Common.{◌≡◌, ℕ, ◌≤◌, List, [], ◌∷◌, arith, Result, Ok}
use Rattle.polynomials.specs.Poly.{Poly}
use Rattle.polynomials.specs.Bounds.{standard, bounded_round}
use Rattle.polynomials.specs.Division.{degree}
use Rattle.polynomials.specs.Packed.{terms}
use Rattle.polynomials.specs.Working.{Holds, Forms}
use Rattle.polynomials.specs.declared.Term.{Term as Packed}
use Rattle.polynomials.specs.declared.Passed.{Passed}
use Rattle.polynomials.specs.laws.Answers.{Answered, round_answered}
use Rattle.division.specs.declared.Pivot.{Pivot}

-- A polynomial of degree 1 or more has a coefficient below the modulus.
positive : (p k : ℕ) (s : List Packed) → Holds p s → 1 ≤ degree k (terms s) → 1 ≤ p
unfolding terms degree
positive p k [] H d = absurd (omega (arith, d))
positive p k (t ∷ s) H d = omega (arith, H.canonical.0, H.canonical.1)

pub modulus_positive : (v : Pivot) → 1 ≤ v.p
modulus_positive v = positive v.p v.k v.divisor.now v.holds (omega (arith, v.some, v.of_degree))

-- What a round formed.
pub formed : (v : Pivot) (R : Poly) (m : ℕ) (r : Result ℕ Passed) (s : List Packed) → r ≡ Ok m
    → Forms (bounded_round standard v.p v.k v.d (terms v.divisor.now) R) r s → Answered v.p (bounded_round standard v.p v.k v.d (terms v.divisor.now) R) m s
formed v R m r s q F = round_answered v.p (modulus_positive v) m r s q v.k v.d (terms v.divisor.now) R F
