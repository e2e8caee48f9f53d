-- Each way that an index leads, and the head there.
use Rattle.std.proofs.Common.{sym, ◌∙◌}
use Rattle.std.proofs.lemmas.Result.{err_from_is_err_and}
use Rattle.tables.specs.laws.Chains.{checked_good, reached_first, leads_end, leads_inside, leads_refused, leads_on, heads_chain}
use Rattle.checking.proofs.Following.{followed_leads, followed_strays, followed_less}
use Rattle.reading.proofs.check_heads.Goals as goal

pub returns-in_default : goal.returns-in_default
returns-in_default c =
    let t = c.args.table in
    let C = heads_chain t.words.now t.modulus t.variables in
    rw c.refusal.ensures (followed_strays C (reached_first C tt c.args.from c.args.first c.requires) (sym c.follow.ensures ∙ c.in_default.is))

pub loop-next-init : goal.loop-next-init
loop-next-init c =
    let t = c.args.table in
    let C = heads_chain t.words.now t.modulus t.variables in
    let l = followed_leads C (reached_first C tt c.args.from c.args.first c.requires) c.in-Ok.ensures in
    record { inside = λ i. leads_inside C l; leads = l }

pub returns : goal.returns
returns c = let t = c.args.table in leads_end (heads_chain t.words.now t.modulus t.variables) c.loop-next.invariant.leads c.in_default-next.is

-- ── the head that it leads to ──
pub returns-in_err-check_head : goal.returns-in_err-check_head
returns-in_err-check_head c =
    let t = c.args.table in
    let p = err_from_is_err_and c.from_residual.result c.from_residual.ensures.1 in
    rw (p.1, p.2) (leads_refused (heads_chain t.words.now t.modulus t.variables) c.loop-next.invariant.leads c.in-Some.is c.in_err-check_head.ensures)

-- ── the next index ──
pub returns-in_default-follow : goal.returns-in_default-follow
returns-in_default-follow c =
    let t = c.args.table in
    let g = checked_good _ (sym c.in_ok-check_head.ensures) in
    let on = leads_on (heads_chain t.words.now t.modulus t.variables) c.loop-next.invariant.leads c.in-Some.is g.1 in
    rw c.refusal-in_default-follow.ensures (followed_strays (heads_chain t.words.now t.modulus t.variables) on (rw (← c.word.ensures) (sym c.follow-in-Some.ensures ∙ c.in_default-follow.is)))

pub loop-next-smaller : goal.loop-next-smaller
loop-next-smaller c =
    let t = c.args.table in
    let inside = c.loop-next.invariant.inside c.in-Some.i c.in-Some.is in
    followed_less t.words.now c.word.result c.in-Some.i c.in-Ok-follow.behind c.loop-next.next c.in-Some.is inside c.in-Ok-follow.ensures

pub loop-next-preserved : goal.loop-next-preserved
loop-next-preserved c =
    let t = c.args.table in
    let g = checked_good _ (sym c.in_ok-check_head.ensures) in
    let C = heads_chain t.words.now t.modulus t.variables in
    let l = followed_leads C (leads_on C c.loop-next.invariant.leads c.in-Some.is g.1) (rw (← c.word.ensures) c.in-Ok-follow.ensures) in
    record { inside = λ i. leads_inside C l; leads = l }
