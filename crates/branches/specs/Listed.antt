-- What the control record tells of the listed systems.
use Rattle.std.specs.Prelude.{◌≡◌, refl, [], ◌∷◌, ℕ, ◌-◌, length}
use Rattle.stored.specs.Stored.{polys_records}
use Rattle.branches.specs.Area.{Area, systems_records, empty}
use Rattle.branches.specs.declared.Listed.{Listed}

-- The record at which the systems start, in a work area of so many records, at whose end they lie; and how many there are.
abbrev pub listed_of : ℕ → Area → Listed
listed_of most a = record { top = most - length (systems_records a.systems); count = length a.systems }

-- Two systems without polynomials take the last two of nine records.
last_two : listed_of 9 (record { branches = []; systems = empty ∷ (empty ∷ []) }) ≡ record { top = 7; count = 2 }
unfolding systems_records polys_records
last_two = refl
