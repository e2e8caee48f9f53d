use Rattle.factors.proofs.FactorLaws.{Divided}
use Rattle.factors.proofs.factor.Given as goal

abbrev pub invariant-loop-i : goal.invariant-loop-i
invariant-loop-i l = Divided l.k l.d l.e l.initial.r l.r l.i l.count
