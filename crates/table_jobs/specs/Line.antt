-- What the line of a job says.
use Rattle.std.specs.Prelude.{List, ℕ, zero, suc}
use Rattle.tables.specs.Read.{read_table}
use Rattle.tables.specs.Solve.{checked, answered, try_input, try_systems}
use Rattle.numbers.specs.declared.Line.{Line}
use Rattle.numbers.specs.Line.{reading_line, trial_line, place_line}
use Rattle.table_jobs.specs.declared.Kind.{Kind}
use Rattle.table_jobs.specs.declared.Kind.TheVariants.{Reading, Trial, Placing}

-- Kind 0 reads a table, kind 1 tries a point against one, any other against a list.
abbrev pub kind_of : ℕ → Kind
kind_of zero = Reading
kind_of (suc zero) = Trial
kind_of (suc (suc k)) = Placing

-- The table w is read, or the point x is tried against it, or against the list w.
abbrev pub line : Kind → List ℕ → List ℕ → Line
line Reading w x = reading_line (checked (read_table w))
line Trial w x = trial_line (answered (try_input w x))
line Placing w x = place_line (answered (try_systems w x))
