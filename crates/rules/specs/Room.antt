-- "Room: each branch and each listed system takes one record, each polynomial one and each term one."
use Rattle.std.specs.Prelude.{List, [], ◌∷◌, ℕ, ◌+◌, length}
use Rattle.polynomials.specs.Poly.{Poly}
use Rattle.polynomials.specs.Bounds.{Bound, unbounded, Bounds, no_bounds}
use Rattle.tables.specs.Read.{System}
use Rattle.rules.specs.Branch.{Branch}

-- The limits of a run but for its steps; each may be absent.
pub record Limits : Type 0 where
  pub bounds : Bounds
  pub of_room : Bound

-- All absent.
abbrev pub unlimited : Limits
unlimited = record { bounds = no_bounds; of_room = unbounded }

-- The open branch first, then those that wait, the last one set aside first; the systems listed so far.
pub record State : Type 0 where
  pub branches : List Branch
  pub systems : List System

unfoldable pub polynomials_size : List Poly → ℕ
polynomials_size [] = 0
polynomials_size (f ∷ fs) = 1 + (length f + polynomials_size fs)

unfoldable pub branch_size : Branch → ℕ
branch_size b = 1 + (polynomials_size b.P + (polynomials_size b.Q + polynomials_size b.T))

unfoldable pub branches_size : List Branch → ℕ
branches_size [] = 0
branches_size (b ∷ bs) = branch_size b + branches_size bs

unfoldable pub systems_size : List System → ℕ
systems_size [] = 0
systems_size (s ∷ ss) = 1 + (polynomials_size s.T + polynomials_size s.U) + systems_size ss

-- The live count.
unfoldable pub live : State → ℕ
live s = branches_size s.branches + systems_size s.systems
