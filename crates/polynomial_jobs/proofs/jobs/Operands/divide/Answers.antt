-- The leading variable's highest power makes g a pivot, with its initial in x.
use Rattle.std.proofs.Common.{ℕ, ◌∙◌, sym, ap, arith}
use Rattle.polynomials.specs.Packed.{terms}
use Rattle.polynomials.specs.Division.{initial, coefficient}
use Rattle.polynomials.specs.laws.Answers.{written_holds}
use Rattle.polynomials.specs.laws.Parts.{at_leader, canonical_initial}
use Rattle.polynomial_jobs.proofs.jobs.Operands.divide.Goals as goal

pub invariant_of-pivot : goal.invariant_of-pivot
unfolding initial
invariant_of-pivot g c =
    let s = c.args.self.now in
    let k = c.new-k.result in
    let w = c.initial-m.ensures.written in
    record {
      some = omega (arith, c.degree.ensures, at_leader (terms s.g.now) k (omega (arith, c.leader-lead.ensures, c.new-k.ensures, c.if-lead-eq0.false)));
      holds = s.g_holds;
      of_degree = sym c.degree.ensures;
      initial_holds = written_holds s.p _ _ _ w (omega (arith, w.within, c.initial-m.auto)) (canonical_initial s.p k (terms s.g.now) s.g_holds.canonical);
      of_initial = w.holds ∙ ap (λ (e : ℕ). coefficient k e (terms s.g.now)) (sym c.degree.ensures);
    }
