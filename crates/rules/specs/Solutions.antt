-- What the claims speak of: points that solve an input or a system, in any field that contains the prime field.
use Rattle.std.specs.Prelude.{◌≡◌, ◌≢◌, ◌⊎◌, List, [], ◌∷◌, ◌-◌}
use Rattle.std.proofs.Math.Logic.{Lift}
use Rattle.residues.specs.Each.{Each}
use Rattle.residues.specs.Prime.{Prime}
use Rattle.residues.specs.Field.{Field}
use Rattle.polynomials.specs.Poly.{Poly}
use Rattle.polynomials.specs.Canonical.{Canonical}
use Rattle.polynomials.specs.Division.{leader, initial}
use Rattle.polynomials.specs.Value.{value}
use Rattle.tables.specs.Read.{Input, System}

-- P holds of some member of a list.
module _ {ℓ} {A : Type 0} (P : A → Type ℓ) where
  abbrev pub Some : List A → Type ℓ
  Some [] = Lift {0, ℓ} ⊥
  Some (a ∷ xs) = P a ⊎ Some xs

module _ {ℓ} {K : Type ℓ} (F : Field K) (x : List K) where
  abbrev pub Zero : Poly → Type ℓ
  Zero f = value F.ring f x ≡ F.ring.nil

  abbrev pub NonZero : Poly → Type ℓ
  NonZero f = value F.ring f x ≢ F.ring.nil

  -- "A point solves an input if every polynomial of its P has value 0 there and none of its Q has. It solves a system if every
  -- polynomial of T, the triangular list, has value 0 there and none of U, its companion set, has."
  abbrev pub SolvesInput : Input → Type ℓ
  SolvesInput t = Each Zero t.P × Each NonZero t.Q

  abbrev pub SolvesSystem : System → Type ℓ
  SolvesSystem s = Each Zero s.T × Each NonZero s.U

  -- "An initial is itself a polynomial, and its value at the point is meant."
  abbrev pub NonZeroInitial : Poly → Type ℓ
  NonZeroInitial f = NonZero (initial (leader f - 1) f)

-- A prime modulus, and canonical polynomials.
pub record Proper (t : Input) : Type 0 where
  pub prime : Prime t.modulus
  pub canonical_p : Each (Canonical t.modulus) t.P
  pub canonical_q : Each (Canonical t.modulus) t.Q
