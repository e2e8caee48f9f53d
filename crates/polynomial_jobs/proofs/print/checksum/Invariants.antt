-- The sum so far is below 2^31 - 1.
use Rattle.std.proofs.Common.{◌<◌}
use Rattle.polynomial_jobs.proofs.print.checksum.Given as goal

abbrev pub invariant-loop-term : goal.invariant-loop-term
invariant-loop-term l = l.sum < 2147483647
