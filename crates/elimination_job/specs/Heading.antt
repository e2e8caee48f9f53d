-- The first line of a job.
use Rattle.std.specs.Prelude.{not, ◌==◌, List, ℕ, count_by}
use Rattle.run.specs.declared.Answer.{Answer}
use Rattle.run.specs.declared.Outcome.{Outcome}
use Rattle.elimination.specs.Numbers.{outcome_numbers}
use Rattle.elimination_job.specs.declared.Heading.{Heading}

-- How many words are not zero.
abbrev pub nonzero : List ℕ → ℕ
nonzero = count_by (λ x. not (x == 0))

-- 0 or the refusal's number, the steps, the count of systems or the refusal's record; and how many words of the work area are not zero.
abbrev pub heading : ℕ → Outcome → ℕ → Heading
heading steps o k = record { outcome = (outcome_numbers o).outcome; steps = steps; value = (outcome_numbers o).value; nonzero = k }

abbrev pub heading_of : Answer → ℕ → Heading
heading_of a k = heading a.steps a.outcome k
