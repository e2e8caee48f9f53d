use Rattle.std.proofs.Common.{◌≤◌}
use Rattle.lines.specs.Written.{capacity}
use Rattle.elimination_bench.proofs.run_jobs.Given as goal

abbrev pub invariant-loop : goal.invariant-loop
invariant-loop g l = 128 ≤ capacity l.text
