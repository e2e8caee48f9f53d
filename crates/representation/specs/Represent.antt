-- The state of the rules that the work area holds: each list of packed terms is the polynomial of these terms, and the systems stand in the
-- order in which they were listed.
use Rattle.std.specs.Prelude.{◌≡◌, List, [], ◌∷◌, map, reverse, ℕ, ◌^◌, ◌<◌, get_or}
use Rattle.residues.specs.Each.{Each}
use Rattle.polynomials.specs.Poly.{Poly}
use Rattle.polynomials.specs.Packed.{terms}
use Rattle.polynomials.specs.Working.{Holds}
use Rattle.tables.specs.Read.{System}
use Rattle.rules.specs.Branch.{Branch, Chosen}
use Rattle.rules.specs.Room.{State}
use Rattle.branches.specs.Area.{Stored, Area}
use Rattle.polynomials.specs.declared.Term.{Term as Packed}

abbrev pub branch_of : Stored → Branch
branch_of b = record { P = map terms b.P; Q = map terms b.Q; T = map terms b.T }

-- A listed branch: "(T, Q) goes to the end of the list of systems, Q as its U".
abbrev pub system_of : Stored → System
system_of b = record { T = map terms b.T; U = map terms b.Q }

-- The newest system stands first in the work area and last in the list.
abbrev pub state_of : Area → State
state_of a = record { branches = map branch_of a.branches; systems = reverse (map system_of a.systems) }

-- A member of P by its place, as the rules choose it.
abbrev pub chosen : Stored → ℕ → Chosen
chosen b i = record { place = i; poly = terms (get_or b.P i []) }

-- In rule 5, "the new Q is built by putting them": the branch with the new members only.
abbrev pub with_new : Stored → List (List Packed) → Branch
with_new b new = record { P = map terms b.P; Q = map terms new; T = map terms b.T }

-- Coefficient and monomial are words of 64 bits.
abbrev pub TwoWords : Packed → Type 0
TwoWords t = (t.coefficient < 2 ^ 64) × (t.monomial < 2 ^ 64)

-- A stored polynomial: canonical modulo p, at most 256 terms, each of two words.
pub record Sound (p : ℕ) (s : List Packed) : Type 0 where
  pub holds : Holds p s
  pub small : Each TwoWords s

abbrev pub AllSound : ℕ → List (List Packed) → Type 0
AllSound p fs = Each (Sound p) fs

-- The first coefficient is 1, if there is one.
abbrev pub Monic : Poly → Type 0
Monic [] = Unit {0}
Monic (t ∷ f) = t.coef ≡ 1

abbrev pub AllMonic : List (List Packed) → Type 0
AllMonic fs = Each (λ f. Monic (terms f)) fs

pub record BranchSound (p : ℕ) (b : Stored) : Type 0 where
  pub in_p : AllSound p b.P
  pub in_q : AllSound p b.Q
  pub in_t : AllSound p b.T

abbrev pub BranchesSound : ℕ → List Stored → Type 0
BranchesSound p bs = Each (BranchSound p) bs

pub record AreaSound (p : ℕ) (a : Area) : Type 0 where
  pub branches : BranchesSound p a.branches
  pub systems : BranchesSound p a.systems

-- The listed branches have an empty P: it is no part of a system.
abbrev pub AllListed : List Stored → Type 0
AllListed bs = Each (λ b. b.P ≡ []) bs
