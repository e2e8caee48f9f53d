-- Bytes compare as the numbers do.
use Rattle.std.proofs.Common.{sym, ap, arith}
use Rattle.std.proofs.Math.Dec.{is_le}
use Rattle.polynomials.specs.laws.Packed.{order_bytes}
use Rattle.monomials.proofs.at_most.Goals as goal

pub returns : goal.returns
returns c = sym (ap is_le (order_bytes 8 c.args.a c.args.b (omega arith) (omega arith)))
