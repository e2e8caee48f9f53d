-- The count of the systems that were read.
use Rattle.std.specs.Prelude.{List, ℕ, length, Result, Ok, Err}
use Rattle.tables.specs.declared.Refusal.{Refusal}
use Rattle.tables.specs.Read.{Read, good, refused, System}
use Rattle.tables.specs.Solve.{refusal}

-- The count of systems, or the refusal.
abbrev pub counted : Read (List System) → Result ℕ Refusal
counted (good ss) = Ok (length ss)
counted (refused why at) = Err (refusal why at)
