-- Each way that an index leads, and the system there.
use Rattle.std.proofs.Common.{sym, ◌∙◌, arith}
use Rattle.std.proofs.lemmas.Result.{err_from_is_err_and}
use Rattle.tables.specs.Words.{word, follow}
use Rattle.tables.specs.laws.Chains.{left_less, whole_records}
use Rattle.words.proofs.Laws.{first_record, from_ok, from_err}
use Rattle.systems.proofs.SystemLaws.{counting_first, count_leads, count_strays, count_end, count_inside, count_refused, count_on}
use Rattle.systems.proofs.check_systems.Goals as goal

-- ── the first index ──
pub returns-in_err-next : goal.returns-in_err-next
returns-in_err-next c =
    let t = c.args.table in
    let e = err_from_is_err_and c.from_residual.result c.from_residual.ensures.1 in
    let first = counting_first t.words.now t.modulus t.variables (word t.words.now 0 2) (first_record t) in
    rw (e.1, e.2) (count_strays t.words.now t.modulus t.variables first (rw (← c.word.ensures) c.in_err-next.ensures))

pub loop-next-init : goal.loop-next-init
loop-next-init c =
    let t = c.args.table in
    let first = counting_first t.words.now t.modulus t.variables (word t.words.now 0 2) (first_record t) in
    let l = count_leads t.words.now t.modulus t.variables first (rw (← c.word.ensures) c.in_ok-next.ensures) in
    record { inside = λ i. count_inside t.words.now t.modulus t.variables l; leads = l }

pub returns : goal.returns
returns c = let t = c.args.table in count_end t.words.now t.modulus t.variables c.loop-next.invariant.leads c.in_default.is

-- ── the system that it leads to ──
pub returns-in_err-check_system : goal.returns-in_err-check_system
returns-in_err-check_system c =
    let t = c.args.table in
    let e = err_from_is_err_and c.from_residual-in_err-check_system.result c.from_residual-in_err-check_system.ensures.1 in
    rw (e.1, e.2) (count_refused t.words.now t.modulus t.variables c.loop-next.invariant.leads c.in-Some.is c.in_err-check_system.ensures)

pub overflow_add-count : goal.overflow_add-count
overflow_add-count c =
    let inside = c.loop-next.invariant.inside c.in-Some.i c.in-Some.is in
    let t = c.args.table in
    omega (arith, (whole_records t.words.now t.readable.whole).2)

-- ── the next index ──
pub returns-in_default-follow : goal.returns-in_default-follow
returns-in_default-follow c =
    let t = c.args.table in
    let e = from_err c.in-Some.i (follow t.words.now c.in-Some.i c.word-in-Some.result) (sym c.follow-in-Some.ensures ∙ c.in_default-follow.is) in
    let on = count_on t.words.now t.modulus t.variables c.loop-next.invariant.leads c.in-Some.is c.in_ok-check_system.ensures in
    rw c.refusal.ensures (count_strays t.words.now t.modulus t.variables on (rw (← c.word-in-Some.ensures) (sym e)))

pub loop-next-smaller : goal.loop-next-smaller
loop-next-smaller c =
    let inside = c.loop-next.invariant.inside c.in-Some.i c.in-Some.is in
    let e = from_ok c.in-Some.i (follow c.args.table.words.now c.in-Some.i c.word-in-Some.result) (sym c.in-Ok.ensures) in
    left_less c.args.table.words.now c.word-in-Some.result c.in-Some.i c.in-Ok.behind c.loop-next.next c.in-Some.is inside.1 (sym e)

pub loop-next-preserved : goal.loop-next-preserved
loop-next-preserved c =
    let t = c.args.table in
    let on = count_on t.words.now t.modulus t.variables c.loop-next.invariant.leads c.in-Some.is c.in_ok-check_system.ensures in
    let e = from_ok c.in-Some.i (follow t.words.now c.in-Some.i c.word-in-Some.result) (sym c.in-Ok.ensures) in
    let l = count_leads t.words.now t.modulus t.variables on (rw (← c.word-in-Some.ensures) (sym e)) in
    record { inside = λ i. count_inside t.words.now t.modulus t.variables l; leads = l }
