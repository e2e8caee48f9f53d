-- Both slices of T terms fit in memory.
use Rattle.std.proofs.Common.{arith}
use Rattle.scratch.proofs.run_in.Goals as goal

pub whole_as_slice-run : goal.whole_as_slice-run
whole_as_slice-run g c = omega (arith, c.requires.room)

pub whole_as_slice-run-2 : goal.whole_as_slice-run-2
whole_as_slice-run-2 g c = omega (arith, c.requires.room)
