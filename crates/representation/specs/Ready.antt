-- What holds of the state in the work area between two steps of the run.
use Rattle.std.specs.Prelude.{◌≢◌, List, [], ℕ, ◌-◌}
use Rattle.residues.specs.Each.{Each}
use Rattle.polynomials.specs.Bounds.{standard, at_most}
use Rattle.rules.specs.Room.{Limits}
use Rattle.branches.specs.Area.{Stored, Area}
use Rattle.representation.specs.Represent.{AllListed, AreaSound, AllMonic}

-- Every polynomial of every P is monic, as each was put.
abbrev pub PMonic : List Stored → Type 0
PMonic bs = Each (λ b. AllMonic b.P) bs

-- No polynomial of a P is zero: none was put.
abbrev pub PNonzero : List Stored → Type 0
PNonzero bs = Each (λ b. Each (λ f. f ≢ []) b.P) bs

pub record Ready (p : ℕ) (a : Area) : Type 0 where
  pub sound : AreaSound p a
  pub monic : PMonic a.branches
  pub nonzero : PNonzero a.branches
  pub listed : AllListed a.systems

-- The limits of a run in a work area of so many records: document 01's bounds, and all records but one.
abbrev pub limits_in : ℕ → Limits
limits_in most = record { bounds = standard; of_room = at_most (most - 1) }
