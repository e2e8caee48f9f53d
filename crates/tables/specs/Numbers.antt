-- Document 01's number and value for each case of an answer about tables and points: "0 or the refusal", then 1 or 0 for yes or no, the place, 0 for
-- an accepted reading, or the refusal's record.
use Rattle.std.specs.Prelude.{Bool, true, false, ℕ, Result, Ok, Err}
use Rattle.tables.specs.declared.Refusal.{Refusal}
use Rattle.tables.specs.Reason.{number}

pub record Numbers : Type 0 where
  pub outcome : ℕ
  pub value : ℕ

abbrev pub accepted_numbers : ℕ → Numbers
accepted_numbers v = record { outcome = 0; value = v }

abbrev pub refused_numbers : Refusal → Numbers
refused_numbers r = record { outcome = number r.reason; value = r.at }

abbrev pub reading_numbers : Result (Unit {0}) Refusal → Numbers
reading_numbers (Ok t) = accepted_numbers 0
reading_numbers (Err r) = refused_numbers r

abbrev pub trial_numbers : Result Bool Refusal → Numbers
trial_numbers (Ok true) = accepted_numbers 1
trial_numbers (Ok false) = accepted_numbers 0
trial_numbers (Err r) = refused_numbers r

abbrev pub place_numbers : Result ℕ Refusal → Numbers
place_numbers (Ok k) = accepted_numbers k
place_numbers (Err r) = refused_numbers r
