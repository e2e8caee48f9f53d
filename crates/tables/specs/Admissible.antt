-- The polynomials, inputs and lists that a table can hold: what their numbers and their order must be.
use Rattle.std.specs.Prelude.{◌≡◌, List, [], ◌∷◌, ℕ, ◌≤◌, ◌<◌, length, get_or}
use Rattle.residues.specs.Each.{Each}
use Rattle.residues.specs.Prime.{Prime}
use Rattle.polynomials.specs.Poly.{Poly}
use Rattle.polynomials.specs.Canonical.{Canonical, All}
use Rattle.polynomials.specs.Division.{leader}
use Rattle.tables.specs.Read.{Input, Listing}

-- "Leading variables rise: each polynomial of T has one, higher than that of the polynomial before it."
abbrev pub Rising : ℕ → List Poly → Type 0
Rising last [] = Unit {0}
Rising last (f ∷ fs) = (last < leader f) × Rising (leader f) fs

-- A polynomial in n variables over the residues modulo p that a table can hold: at most 256 terms; exponents of eight variables, "0 to 255
-- each", and 0 for each variable above vn.
pub record Admissible (p n : ℕ) (f : Poly) : Type 0 where
  pub canonical : Canonical p f
  pub few : length f ≤ 256
  pub places : All (λ e. length e ≡ 8) f
  pub small : (k : ℕ) → All (λ e. get_or e k 0 ≤ 255) f
  pub absent : (k : ℕ) → n ≤ k → All (λ e. get_or e k 0 ≡ 0) f

-- "p is a prime, 2 ≤ p < 2^31", "1 ≤ n ≤ 8".
pub record AdmissibleNumbers (p n : ℕ) : Type 0 where
  pub prime : Prime p
  pub below : p < 2147483648
  pub some_variable : 1 ≤ n
  pub eight_variables : n ≤ 8

pub record AdmissibleInput (t : Input) : Type 0 where
  pub numbers : AdmissibleNumbers t.modulus t.variables
  pub zeros : Each (Admissible t.modulus t.variables) t.P
  pub nonzeros : Each (Admissible t.modulus t.variables) t.Q

pub record AdmissibleListing (l : Listing) : Type 0 where
  pub numbers : AdmissibleNumbers l.modulus l.variables
  pub triangular : Each (λ s. Each (Admissible l.modulus l.variables) s.T) l.systems
  pub companion : Each (λ s. Each (Admissible l.modulus l.variables) s.U) l.systems
  pub rising : Each (λ s. Rising 0 s.T) l.systems
