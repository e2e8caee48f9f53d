-- A shift and a remainder are the byte.
use Rattle.std.proofs.Common.{sym}
use Rattle.polynomials.specs.laws.Packed.{byte_shift}
use Rattle.monomials.proofs.exponent.Goals as goal

pub returns : goal.returns
returns c = rw (sym c.k.view_is) (byte_shift 8 c.k.inside.position c.args.m c.k.invariant)
