-- What is gathered is the product of the terms that are not left; the number of those left is even, and they can bring it back to 256 terms.
use Rattle.std.proofs.Common.{length}
use Rattle.gathering.proofs.GatherLaws.{Gathering}
use Rattle.gathering.proofs.gather.Given as goal

abbrev pub invariant-loop-rows : goal.invariant-loop-rows
invariant-loop-rows l = Gathering l.p l.f l.g l.rows l.n l.x

abbrev pub decreases-loop-rows : goal.decreases-loop-rows
decreases-loop-rows l = length l.rows
