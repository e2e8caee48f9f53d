-- Outcomes as lines: document 01's number and value of each.
use Rattle.std.specs.Prelude.{Bool, ℕ, Result}
use Rattle.tables.specs.Numbers.{Numbers, reading_numbers, trial_numbers, place_numbers}
use Rattle.tables.specs.declared.Refusal.{Refusal}
use Rattle.numbers.specs.declared.Line.{Line}

abbrev pub line_of : Numbers → Line
line_of n = record { outcome = n.outcome; value = n.value }

abbrev pub reading_line : Result (Unit {0}) Refusal → Line
reading_line r = line_of (reading_numbers r)

abbrev pub trial_line : Result Bool Refusal → Line
trial_line r = line_of (trial_numbers r)

abbrev pub place_line : Result ℕ Refusal → Line
place_line r = line_of (place_numbers r)
