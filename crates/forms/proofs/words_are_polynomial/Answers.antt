-- Each pair that is passed is a term whose coefficient is a residue other than 0, above the next.
use Rattle.std.proofs.Common.{length, arith, rules}
use Rattle.std.proofs.lemmas.Slice.{between_to_end}
use Rattle.forms.proofs.HeldLaws.{refused_odd, refused_long_words, tested_words, passed_all_words, opened_pair, refused_zero, refused_residue, refused_rising, passed}
use Rattle.forms.proofs.words_are_polynomial.Goals as goal
use Rattle.forms.proofs.words_are_polynomial.Goals.{
  then-words-eq1-via-then-words-eq1,
  then-words-eq1-via-else-words-eq1+then-words-gt512,
  then-coefficient-eq0-via-then-coefficient-eq0,
  then-coefficient-eq0-via-else-coefficient-eq0+then-p-coefficient,
  then-coefficient-eq0-via-else-coefficient-eq0+else-p-coefficient+then-not-is_above_pair,
}

pub returns-then-words-eq1 : goal.returns-then-words-eq1
returns-then-words-eq1 c =
    elim c.then-words-eq1.branch [
      | then-words-eq1-via-then-words-eq1 w ↦ refused_odd c.args.p c.args.words.now (omega (arith, w.if-words-eq1.true))
      | then-words-eq1-via-else-words-eq1+then-words-gt512 w ↦ refused_long_words c.args.p c.args.words.now (omega (arith, w.if-words-gt512.true))
    ]

pub loop-rest-init : goal.loop-rest-init
loop-rest-init c = tested_words c.args.p c.args.words.now (omega (arith, c.if-words-eq1.false)) (omega (arith, c.if-words-gt512.false))

pub returns-then-coefficient-eq0 : goal.returns-then-coefficient-eq0
returns-then-coefficient-eq0 c =
    let rest = c.loop-rest.rest.now in
    let o = opened_pair c.args.p rest _ c.loop-rest.invariant c.in-len2-up.len_at_least (between_to_end rest 2 (length rest) (omega arith)) in
    elim c.then-coefficient-eq0.branch [
      | then-coefficient-eq0-via-then-coefficient-eq0 w ↦ refused_zero o w.if-coefficient-eq0.true
      | then-coefficient-eq0-via-else-coefficient-eq0+then-p-coefficient w ↦ refused_residue o w.if-p-coefficient.true
      | then-coefficient-eq0-via-else-coefficient-eq0+else-p-coefficient+then-not-is_above_pair w ↦ refused_rising o (search rules)
    ]

pub loop-rest-preserved : goal.loop-rest-preserved
loop-rest-preserved c =
    let rest = c.loop-rest.rest.now in
    passed (opened_pair c.args.p rest _ c.loop-rest.invariant c.in-len2-up.len_at_least (between_to_end rest 2 (length rest) (omega arith)))
    c.if-coefficient-eq0.false c.if-p-coefficient.false (search rules)

pub returns : goal.returns
returns c = passed_all_words c.args.p c.args.words.now c.loop-rest.rest.now c.loop-rest.invariant c.in_default.len_below
