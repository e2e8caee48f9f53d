use Rattle.std.proofs.Common.{◌≤◌}
use Rattle.polynomial_jobs.proofs.operands.Digits.power.Given as goal

abbrev pub invariant-loop-i : goal.invariant-loop-i
invariant-loop-i l = (1 ≤ l.q) × (l.q ≤ 2147483648)
