use Rattle.std.proofs.Common.{arith, length-take-le, sym}
use Rattle.polynomial_jobs.proofs.Pairs.{count, put, all_put}
use Rattle.polynomial_jobs.proofs.jobs.paired.Goals as goal

pub bounds-out-i : goal.bounds-out-i
bounds-out-i c = omega (arith, count c.args.words.now)

pub loop-i-preserved : goal.loop-i-preserved
loop-i-preserved c = put c.args.words.now c.loop-i.i c.loop-i.out (omega arith) (omega (arith, count c.args.words.now)) c.loop-i.invariant

pub slice_bounds-result-end : goal.slice_bounds-result-end
slice_bounds-result-end c = sym (length-take-le _ c.loop-i.out (omega (arith, count c.args.words.now)))

pub returns : goal.returns
returns c = all_put c.args.words.now c.loop-i.i c.loop-i.out (omega arith) c.loop-i.invariant
