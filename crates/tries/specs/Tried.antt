-- A point's line.
use Rattle.std.specs.Prelude.{List, ℕ}
use Rattle.tables.specs.Solve.{answered, try_input, try_systems}
use Rattle.numbers.specs.Line.{trial_line, place_line}
use Rattle.tries.specs.declared.Tried.{Tried}

-- The point x against the table w, then against the list `systems`.
unfoldable pub tried : List ℕ → List ℕ → List ℕ → Tried
tried w systems x = record { trial = trial_line (answered (try_input w x)); place = place_line (answered (try_systems systems x)) }
