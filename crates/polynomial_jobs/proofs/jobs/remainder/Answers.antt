use Rattle.std.proofs.Common.{arith}
use Rattle.std.proofs.lemmas.Result.{err_from_is_err_and}
use Rattle.polynomial_jobs.proofs.Rounds.{formed_next, passed_next, done, used}
use Rattle.polynomial_jobs.proofs.jobs.remainder.Goals as goal

pub returns-in_err-n : goal.returns-in_err-n
returns-in_err-n c =
    let e = err_from_is_err_and c.from_residual.result c.from_residual.ensures.1 in
    rw (e.1, e.2) (passed_next c.loop-round.invariant (omega arith) (omega (arith, c.degree-e.ensures)) _ c.round_apart.result _ c.in_err-n.was c.round_apart.ensures)

pub loop-round-preserved : goal.loop-round-preserved
loop-round-preserved c = formed_next c.loop-round.invariant (omega arith) (omega (arith, c.degree-e.ensures)) _ c.round_apart.result _ c.in_ok-n.was c.round_apart.ensures

pub returns-then-e-pivot : goal.returns-then-e-pivot
returns-then-e-pivot c = done c.loop-round.invariant (omega (arith, c.degree-e.ensures))

pub returns : goal.returns
returns c = used c.loop-round.invariant (omega arith)
