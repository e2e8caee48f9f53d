use Rattle.std.proofs.Common.{◌≡◌, arith}
use Rattle.montgomery.specs.laws.Montgomery.{modulo_four, squared}
use Rattle.montgomery.proofs.Modulus.new.Goals as goal

pub loop-init : goal.loop-init
loop-init c = (omega arith, modulo_four _ c.requires.odd)

pub loop-preserved : goal.loop-preserved
loop-preserved c =
    (omega arith, squared _ _ _ _ (omega arith) c.newton-n.ensures.squares c.loop.invariant.1)

pub invariant_of-result-clause-inverse : goal.invariant_of-result-clause-inverse
invariant_of-result-clause-inverse c =
    let four : c.loop.counter ≡ 4 = omega arith in
    rw four at c.loop.invariant.1
