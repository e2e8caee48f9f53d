-- The multiple of p that makes the product divisible by 2^32.
use Rattle.montgomery.specs.laws.Montgomery.{reduced}
use Rattle.montgomery.proofs.Modulus.multiply_reduced.Goals as goal

pub returns-clause-reduced : goal.returns-clause-reduced
returns-clause-reduced c = reduced _ _ _ c.args.self.inverse
