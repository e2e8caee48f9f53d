use Rattle.polynomial_jobs.proofs.operands.Digits.is_odd.Given as goal

abbrev pub decreases-loop-left : goal.decreases-loop-left
decreases-loop-left l = l.left
