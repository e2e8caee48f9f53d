-- n is the negated inverse of p modulo 4, then modulo 16, 256, 65536 and 2^32.
use Rattle.std.proofs.Common.{◌+◌, ◌^◌, ◌<◌}
use Rattle.montgomery.specs.Montgomery.{NegatedInverse}
use Rattle.montgomery.proofs.Modulus.new.Given as goal

abbrev pub invariant-loop : goal.invariant-loop
invariant-loop l = (l.n < 4294967296) × NegatedInverse (2 ^ 2 ^ (l.counter + 1)) l.p l.n
