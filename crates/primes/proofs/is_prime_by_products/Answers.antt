use Rattle.std.proofs.Common.{refl, arith}
use Rattle.primes.proofs.Products.{gathered_first, gathered_test}
use Rattle.primes.proofs.is_prime_by_products.Goals as goal

pub loop-first-init : goal.loop-first-init
loop-first-init c = (refl, omega arith, gathered_first _ (omega arith))

pub returns : goal.returns
returns c =
    let G = c.loop-first.invariant.2 in
    gathered_test _ c.loop-first.first _ _ _ _ (G 0 (omega arith)) (G 1 (omega arith)) (G 2 (omega arith)) (G 3 (omega arith)) _ (omega arith)
    c.requires.coprime (omega arith) c.coprime.ensures
