-- The answer of an elimination.
use Rattle.rules.specs.Eliminate.{Eliminated, listed, turned_back}
use Rattle.std.specs.Prelude.{length}
use Rattle.run.specs.declared.Outcome.TheVariants.{Systems, Refused}
use Rattle.run.specs.declared.Answer.{Answer}

-- Document 01's answer: "the whole steps finished and an outcome, which is a count of systems, or a refusal with its reason and its record".
abbrev pub answer_of : Eliminated → Answer
answer_of (listed n ss words) = record { steps = n; outcome = Systems (length ss) }
answer_of (turned_back n why at) = record { steps = n; outcome = Refused why at }
