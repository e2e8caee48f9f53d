-- There is room for the terms left, and the monomial's number stays below 2^31.
use Rattle.std.proofs.Common.{◌+◌, ◌≤◌, ◌<◌}
use Rattle.polynomial_jobs.proofs.operands.Shape.terms.Given as goal

abbrev pub invariant-loop-left : goal.invariant-loop-left
invariant-loop-left l = (l.n + l.left ≤ 256) × (l.j < 2147483648)
