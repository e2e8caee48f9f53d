-- Document 01's number and value for each case of an elimination's answer: "0 or the refusal", then the count of systems or the refusal's record.
use Rattle.tables.specs.Numbers.{Numbers, accepted_numbers, refused_numbers}
use Rattle.tables.specs.Solve.{refusal}
use Rattle.run.specs.declared.Outcome.{Outcome}
use Rattle.run.specs.declared.Outcome.TheVariants.{Systems, Refused}

abbrev pub outcome_numbers : Outcome → Numbers
outcome_numbers (Systems n) = accepted_numbers n
outcome_numbers (Refused why at) = refused_numbers (refusal why at)
