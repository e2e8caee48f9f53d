-- What is left of the chain ends where the whole does. The measure is the number of records behind `at`.
use Rattle.std.proofs.Common.{◌-◌}
use Rattle.tables.specs.Words.{records}
use Rattle.extent.specs.Extent.{chain_last}
use Rattle.extent.proofs.ExtentLaws.{Walking}
use Rattle.extent.proofs.chain_last.Given as goal

abbrev pub invariant-loop-k : goal.invariant-loop-k
invariant-loop-k l = Walking l.list (chain_last l.list l.fn.i l.fn.j) l.at l.index

abbrev pub decreases-loop-k : goal.decreases-loop-k
decreases-loop-k l = records l.list - l.at
