-- The test of the terms that are left is the test of all.
use Rattle.std.proofs.Common.{◌≡◌, length}
use Rattle.polynomials.specs.Packed.{terms}
use Rattle.polynomials.specs.Working.{is_canonical, is_held}
use Rattle.forms.proofs.is_polynomial.Given as goal

abbrev pub invariant-loop-rest : goal.invariant-loop-rest
invariant-loop-rest l = is_canonical l.p (terms l.rest) ≡ is_held l.p l.f

abbrev pub decreases-loop-rest : goal.decreases-loop-rest
decreases-loop-rest l = length l.rest
