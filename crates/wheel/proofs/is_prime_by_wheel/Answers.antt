use Rattle.std.proofs.Common.{arith}
use Rattle.wheel.specs.laws.Root.{root_below, test_yes}
use Rattle.wheel.specs.laws.Wheel.{turn_over, turn_refutes}
use Rattle.wheel.proofs.is_prime_by_wheel.Goals as goal

pub returns-then-turn_divides : goal.returns-then-turn_divides
returns-then-turn_divides c = turn_refutes _ c.loop-d.d (omega arith) (omega arith) c.if-turn_divides.ensures

-- d in a turn is below the root of 2^31
pub loop-d-preserved : goal.loop-d-preserved
loop-d-preserved c = (
  omega arith,
  omega (arith, root_below 2147483647 46341 c.loop-d.d (omega arith) (omega arith)),
  turn_over _ _ c.requires.coprime c.loop-d.invariant.2 c.if-turn_divides.ensures,
)

pub returns : goal.returns
returns c =
    test_yes _ c.requires.low
    (λ e two l. c.loop-d.invariant.2 e two (root_below c.args.p c.loop-d.d e (omega arith) l))
