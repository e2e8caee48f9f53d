use Rattle.std.proofs.Common.{◌≢◌, ◌<◌, length, arith, get_or-set_other, get_or-set_same, below_more}
use Rattle.primes.proofs.Products.{gathered_at}
use Rattle.primes.proofs.gather_turn.Goals as goal

pub loop-i-preserved : goal.loop-i-preserved
loop-i-preserved c =
    let m = c.args.modulus in
    let loop = c.loop-i in
    let turn = gathered_at m.p m.n c.args.first loop.i _ loop.products m.inverse c.requires.large c.requires.first c.requires.small (omega arith)
    (loop.invariant.1 loop.i (omega arith) (omega arith)) c.multiply_reduced.ensures.below c.multiply_reduced.ensures.reduced in (
      below_more _ _
          (λ k h. let other : k ≢ loop.i = omega arith in rw get_or-set_other (loop.invariant.0 k h))
          (let within : loop.i < length loop.products = omega arith in rw get_or-set_same turn),
      λ k h l. let other : k ≢ loop.i = omega arith in rw get_or-set_other (loop.invariant.1 k (omega arith) l),
    )
