-- What a call of `eliminate` answers and leaves in its buffers: the contract of `eliminate` is this, and Promise.antt knows a call by it.
use Rattle.std.specs.Prelude.{◌≡◌, List, ℕ, length, replicate}
use Rattle.rules.specs.Eliminate.{eliminated, output_after}
use Rattle.run.specs.declared.Answer.{Answer}
use Rattle.delivery.specs.Answer.{answer_of}

pub record Eliminates (table work output : List ℕ) (limit : ℕ) (a : Answer) (work_after output_left : List ℕ) : Type 0 where
  pub answer : a ≡ answer_of (eliminated table (length work) (length output) limit)
  pub output_is : output_left ≡ output_after (eliminated table (length work) (length output) limit) output
  pub cleared : work_after ≡ replicate (length work) 0
