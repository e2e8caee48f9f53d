-- What is drawn so far is below p.
use Rattle.std.proofs.Common.{◌<◌, ℕ, get_or}
use Rattle.polynomial_jobs.proofs.generator.Generator.point.Given as goal

abbrev pub invariant-loop-residue : goal.invariant-loop-residue
invariant-loop-residue l = (k : ℕ) → k < l.residue-index → get_or l.residue-items k 0 < l.p
