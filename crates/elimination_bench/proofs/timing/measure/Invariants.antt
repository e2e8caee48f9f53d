-- Each batch adds less than 2^45 microseconds.
use Rattle.std.proofs.Common.{◌*◌, ◌≤◌}
use Rattle.elimination_bench.proofs.timing.measure.Given as goal

abbrev pub invariant-loop : goal.invariant-loop
invariant-loop g l = record {
  best : l.best ≤ 35184372088832;
  total : l.total ≤ 35184372088832 * l.counter;
}
