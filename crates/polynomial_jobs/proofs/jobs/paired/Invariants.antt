-- The pairs so far are put.
use Rattle.std.proofs.Common.{◌≡◌, take}
use Rattle.forms.specs.Words.{paired}
use Rattle.polynomial_jobs.proofs.jobs.paired.Given as goal

abbrev pub invariant-loop-i : goal.invariant-loop-i
invariant-loop-i l = take l.i l.out ≡ take l.i (paired l.words)
