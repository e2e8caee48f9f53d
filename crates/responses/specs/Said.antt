-- What is printed of an answer and the output that goes with it. `Response.antt` says the same of the elimination.
use Rattle.std.specs.Prelude.{List, [], ◌∷◌, ◌++◌, ℕ, zero, suc, ◌*◌, take, drop}
use Rattle.lines.specs.Text.{line_text}
use Rattle.run.specs.declared.Answer.{Answer}
use Rattle.run.specs.declared.Outcome.{Outcome}
use Rattle.run.specs.declared.Outcome.TheVariants.{Systems, Refused}
use Rattle.elimination.specs.Numbers.{outcome_numbers}
use Rattle.extent.specs.Extent.{extent}

-- "Each written record on a line": so many, from record i on.
unfoldable pub records_text : List ℕ → ℕ → ℕ → List ℕ
records_text w i zero = []
records_text w i (suc n) = line_text (take 4 (drop (4 * i) w)) ++ records_text w (suc i) n

-- "Outcome (0 or the refusal), steps, then systems or the record."
abbrev pub first_line : ℕ → Outcome → List ℕ
first_line steps o = line_text ((outcome_numbers o).outcome ∷ steps ∷ (outcome_numbers o).value ∷ [])

-- After an outcome of 0 the written records are those that the list in the output takes.
unfoldable pub said_of : ℕ → Outcome → List ℕ → List ℕ
said_of steps (Systems count) out = first_line steps (Systems count) ++ records_text out 0 (extent out)
said_of steps (Refused why at) out = first_line steps (Refused why at)

abbrev pub said : Answer → List ℕ → List ℕ
said a out = said_of a.steps a.outcome out
