-- What the open branch's own record tells.
use Rattle.std.specs.Prelude.{◌≡◌, refl, List, [], ◌∷◌, ◌+◌, length}
use Rattle.stored.specs.Stored.{polys_records}
use Rattle.branches.specs.Area.{Stored, stack, empty}
use Rattle.branches.specs.declared.Open.{Open}

-- The open branch b, with bs waiting under it: where its polynomials start, behind its own record, and how many members P, Q and T have.
abbrev pub open_of : Stored → List Stored → Open
open_of b bs = record { first = (stack (b ∷ bs)).1 + 1; p = length b.P; q = length b.Q; t = length b.T }

-- Its own record is 2 where an empty branch waits, in record 1.
over_one : open_of (record { P = []; Q = [] ∷ ((record { coefficient = 1; monomial = 0 } ∷ []) ∷ []); T = [] }) (empty ∷ []) ≡ record { first = 3; p = 0; q = 2; t = 0 }
unfolding polys_records
over_one = refl
