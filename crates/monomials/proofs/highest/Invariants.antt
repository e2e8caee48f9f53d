-- What is left is m behind k of its eight bytes. The measure is what is left.
use Rattle.polynomials.specs.laws.Highest.{Behind}
use Rattle.monomials.proofs.highest.Given as goal

abbrev pub invariant-loop-left : goal.invariant-loop-left
invariant-loop-left l = Behind l.m l.left l.k

abbrev pub decreases-loop-left : goal.decreases-loop-left
decreases-loop-left l = l.left
