use Rattle.std.proofs.Common.{◌≡◌, length}
use Rattle.lines.specs.Written.{capacity}
use Rattle.tries.proofs.run_all.Given as goal

abbrev pub invariant-loop : goal.invariant-loop
invariant-loop g l = (capacity l.text ≡ capacity l.fn.text) × (length l.words.bytes ≡ length l.fn.words.bytes)
