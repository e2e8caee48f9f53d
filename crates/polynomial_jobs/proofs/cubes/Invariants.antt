-- The top stays small.
use Rattle.std.proofs.Common.{◌-◌, ◌≤◌}
use Rattle.polynomial_jobs.proofs.cubes.Given as goal

abbrev pub invariant-loop-top : goal.invariant-loop-top
invariant-loop-top g l = (1 ≤ l.top) × (l.top ≤ 65535)

abbrev pub decreases-loop-top : goal.decreases-loop-top
decreases-loop-top g l = 65536 - l.top
