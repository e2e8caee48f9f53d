-- The rounds left, from the terms in r, form what all form.
use Rattle.polynomial_jobs.proofs.Rounds.{AtRound}
use Rattle.polynomial_jobs.proofs.jobs.remainder.Given as goal

abbrev pub invariant-loop-round : goal.invariant-loop-round
invariant-loop-round l = AtRound l.pivot l.fn.r l.m l.r l.n l._round
