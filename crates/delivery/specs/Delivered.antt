-- What elimination hands over: its answer, and the words of the output.
use Rattle.std.specs.Prelude.{◌≡◌, List, ℕ}
use Rattle.rules.specs.Eliminate.{Eliminated, output_after}
use Rattle.run.specs.declared.Answer.{Answer}
use Rattle.delivery.specs.Answer.{answer_of}

pub record Delivered (d : Eliminated) (r : Answer) (before after : List ℕ) : Type 0 where
  pub answer : r ≡ answer_of d
  pub output : after ≡ output_after d before
