-- Each way that an index leads, and the polynomial there.
use Rattle.std.proofs.Common.{sym, ◌∙◌}
use Rattle.std.proofs.lemmas.Result.{err_from_is_err_and}
use Rattle.tables.specs.laws.Chains.{reached_first, leads_end, leads_inside, triangle_chain}
use Rattle.checking.proofs.Following.{followed_leads, followed_strays, followed_less}
use Rattle.systems.proofs.SystemLaws.{triangle_refused, triangle_broken, triangle_on}
use Rattle.systems.proofs.check_triangle.Goals as goal

-- ── the first index ──
pub returns-in_default : goal.returns-in_default
returns-in_default c =
    let t = c.args.table in
    let C = triangle_chain t.words.now t.modulus t.variables in
    rw c.refusal.ensures (followed_strays C (reached_first C 0 c.args.system _ c.requires) (rw (← c.word.ensures) (sym c.follow.ensures ∙ c.in_default.is)))

pub loop-next-init : goal.loop-next-init
loop-next-init c =
    let t = c.args.table in
    let C = triangle_chain t.words.now t.modulus t.variables in
    let l = followed_leads C (reached_first C 0 c.args.system _ c.requires) (rw (← c.word.ensures) c.in-Ok.ensures) in
    record { inside = λ i. leads_inside C l; leads = l }

pub returns : goal.returns
returns c = let t = c.args.table in leads_end (triangle_chain t.words.now t.modulus t.variables) c.loop-next.invariant.leads c.in_default-next.is

-- ── the polynomial that it leads to ──
pub returns-in_err-check_head : goal.returns-in_err-check_head
returns-in_err-check_head c =
    let t = c.args.table in
    let e = err_from_is_err_and c.from_residual.result c.from_residual.ensures.1 in
    rw (e.1, e.2) (triangle_refused t.words.now t.modulus t.variables c.loop-next.invariant.leads c.in-Some.is c.in_err-check_head.ensures)

pub returns-then-leader-last : goal.returns-then-leader-last
returns-then-leader-last c =
    let t = c.args.table in
    rw c.refusal-then-leader-last.ensures
    (triangle_broken t.words.now t.modulus t.variables c.loop-next.invariant.leads c.in-Some.is c.in_ok-check_head.ensures c.leader_at-leader.ensures c.if-leader-last.true)

-- ── the next index ──
pub returns-in_default-follow : goal.returns-in_default-follow
returns-in_default-follow c =
    let t = c.args.table in
    let on = triangle_on t.words.now t.modulus t.variables c.loop-next.invariant.leads c.in-Some.is c.in_ok-check_head.ensures c.leader_at-leader.ensures c.if-leader-last.false in
    rw c.refusal-in_default-follow.ensures (followed_strays (triangle_chain t.words.now t.modulus t.variables) on (rw (← c.word-in-Some.ensures) (sym c.follow-in-Some.ensures ∙ c.in_default-follow.is)))

pub loop-next-smaller : goal.loop-next-smaller
loop-next-smaller c =
    let inside = c.loop-next.invariant.inside c.in-Some.i c.in-Some.is in
    followed_less c.args.table.words.now c.word-in-Some.result c.in-Some.i c.in-Ok-follow.behind c.loop-next.next c.in-Some.is inside c.in-Ok-follow.ensures

pub loop-next-preserved : goal.loop-next-preserved
loop-next-preserved c =
    let t = c.args.table in
    let C = triangle_chain t.words.now t.modulus t.variables in
    let on = triangle_on t.words.now t.modulus t.variables c.loop-next.invariant.leads c.in-Some.is c.in_ok-check_head.ensures c.leader_at-leader.ensures c.if-leader-last.false in
    let l = followed_leads C on (rw (← c.word-in-Some.ensures) c.in-Ok-follow.ensures) in
    record { inside = λ i. leads_inside C l; leads = l }
