-- Each term that is passed is a residue other than 0, above the next.
use Rattle.std.proofs.Common.{length, arith, rules}
use Rattle.std.proofs.lemmas.Slice.{between_to_end}
use Rattle.polynomials.specs.declared.Term.{Term as Packed}
use Rattle.forms.proofs.HeldLaws.{refused_long, tested_terms, passed_all, opened, refused_zero, refused_residue, refused_rising, passed}
use Rattle.forms.proofs.is_polynomial.Goals as goal
use Rattle.forms.proofs.is_polynomial.Goals.{then-t-eq0-via-then-t-eq0, then-t-eq0-via-else-t-eq0+then-p-t, then-t-eq0-via-else-t-eq0+else-p-t+then-not-is_above}

abbrev none : Packed
none = record { coefficient = 0; monomial = 0 }

pub returns-then-f-gt256 : goal.returns-then-f-gt256
returns-then-f-gt256 c = refused_long c.args.p c.args.f.now c.if-f-gt256.true

pub loop-rest-init : goal.loop-rest-init
loop-rest-init c = tested_terms c.args.p c.args.f.now c.if-f-gt256.false

pub returns-then-t-eq0 : goal.returns-then-t-eq0
returns-then-t-eq0 c =
    let rest = c.loop-rest.rest.now in
    let o = opened c.args.p rest none _ c.loop-rest.invariant c.in-len1-up.len_at_least (between_to_end rest 1 (length rest) (omega arith)) in
    elim c.then-t-eq0.branch [
      | then-t-eq0-via-then-t-eq0 w ↦ refused_zero o w.if-t-eq0.true
      | then-t-eq0-via-else-t-eq0+then-p-t w ↦ refused_residue o w.if-p-t.true
      | then-t-eq0-via-else-t-eq0+else-p-t+then-not-is_above w ↦ refused_rising o (search rules)
    ]

pub loop-rest-preserved : goal.loop-rest-preserved
loop-rest-preserved c =
    let rest = c.loop-rest.rest.now in
    passed (opened c.args.p rest none _ c.loop-rest.invariant c.in-len1-up.len_at_least (between_to_end rest 1 (length rest) (omega arith)))
    c.if-t-eq0.false c.if-p-t.false (search rules)

pub returns : goal.returns
returns c = passed_all c.args.p c.args.f.now c.loop-rest.rest.now c.loop-rest.invariant c.in_default.len_below
