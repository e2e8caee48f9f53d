-- Each way that an index leads, and the term there.
use Rattle.std.proofs.Common.{sym, ◌∙◌, ap₂, arith}
use Rattle.std.proofs.lemmas.Result.{err_from_is_err_and}
use Rattle.polynomials.specs.Packed.{exponents}
use Rattle.tables.specs.Walk.{before}
use Rattle.tables.specs.laws.Chains.{reached_first, leads_end, leads_inside, leads_refused, terms_chain}
use Rattle.checking.proofs.CheckLaws.{terms_on, few_terms}
use Rattle.checking.proofs.Following.{followed_leads, followed_strays, followed_less}
use Rattle.checking.proofs.check_terms.Goals as goal

-- ── the first index ──
pub returns-in_default : goal.returns-in_default
returns-in_default c =
    let t = c.args.table in
    let C = terms_chain t.words.now t.modulus t.variables in
    rw c.refusal.ensures (followed_strays C (reached_first C (0, _) c.args.head _ c.requires) (rw (← c.word.ensures) (sym c.follow.ensures ∙ c.in_default.is)))

pub loop-next-init : goal.loop-next-init
loop-next-init c =
    let t = c.args.table in
    let C = terms_chain t.words.now t.modulus t.variables in
    let l = followed_leads C (reached_first C (0, _) c.args.head _ c.requires) (rw (← c.word.ensures) c.in-Ok.ensures) in
    record { inside = λ i. leads_inside C l; leads = l }

pub returns : goal.returns
returns c = let t = c.args.table in leads_end (terms_chain t.words.now t.modulus t.variables) c.loop-next.invariant.leads c.in_default-next.is

-- ── the term that it leads to ──
pub returns-in_err-check_term : goal.returns-in_err-check_term
returns-in_err-check_term c =
    let t = c.args.table in
    let p = err_from_is_err_and c.from_residual.result c.from_residual.ensures.1 in
    rw (p.1, p.2) (leads_refused (terms_chain t.words.now t.modulus t.variables) c.loop-next.invariant.leads c.in-Some.is c.in_err-check_term.ensures)

pub overflow_add-m : goal.overflow_add-m
overflow_add-m c =
    let t = c.args.table in
    let few = few_terms t.words.now t.modulus t.variables c.loop-next.m c.in-Some.i (before c.loop-next.last) c.in_ok-check_term.ensures in
    record { fits = omega arith }

-- ── the next index ──
pub returns-in_default-follow : goal.returns-in_default-follow
returns-in_default-follow c =
    let t = c.args.table in
    let same = c.packed.ensures.1 ∙ ap₂ exponents c.word-in-Some.ensures c.word-in-Some-2.ensures in
    let on = terms_on t.words.now t.modulus t.variables c.loop-next.m c.loop-next.last c.packed.result c.loop-next.invariant.leads c.in-Some.is c.in_ok-check_term.ensures same in
    rw c.refusal-in_default-follow.ensures (followed_strays (terms_chain t.words.now t.modulus t.variables) on (rw (← c.word-in-Some-3.ensures) (sym c.follow-in-Some.ensures ∙ c.in_default-follow.is)))

pub loop-next-smaller : goal.loop-next-smaller
loop-next-smaller c =
    let t = c.args.table in
    let inside = c.loop-next.invariant.inside c.in-Some.i c.in-Some.is in
    followed_less t.words.now c.word-in-Some-3.result c.in-Some.i c.in-Ok-follow.behind c.loop-next.next c.in-Some.is inside c.in-Ok-follow.ensures

pub loop-next-preserved : goal.loop-next-preserved
loop-next-preserved c =
    let t = c.args.table in
    let same = c.packed.ensures.1 ∙ ap₂ exponents c.word-in-Some.ensures c.word-in-Some-2.ensures in
    let on = terms_on t.words.now t.modulus t.variables c.loop-next.m c.loop-next.last c.packed.result c.loop-next.invariant.leads c.in-Some.is c.in_ok-check_term.ensures same in
    let C = terms_chain t.words.now t.modulus t.variables in
    let l = followed_leads C on (rw (← c.word-in-Some-3.ensures) c.in-Ok-follow.ensures) in
    record { inside = λ i. leads_inside C l; leads = l }
