-- The header, then the systems, then the header's count of them.
use Rattle.std.proofs.Common.{◌∙◌}
use Rattle.std.proofs.lemmas.Result.{err_from_is_err_and}
use Rattle.systems.proofs.SystemLaws.{list_refused, list_uncounted, list_miscounted, list_counted}
use Rattle.systems.proofs.check_list.Goals as goal

pub returns-in_err-table-clause-err : goal.returns-in_err-table-clause-err
returns-in_err-table-clause-err c =
    let e = err_from_is_err_and c.from_residual.result c.from_residual.ensures.1 in
    rw (e.1, e.2) (list_refused c.args.words.now c.in_err-table.ensures.err)

pub returns-in_err-count-clause-err : goal.returns-in_err-count-clause-err
returns-in_err-count-clause-err c =
    let e = err_from_is_err_and c.from_residual-in_err-count.result c.from_residual-in_err-count.ensures.1 in
    let t = c.in_ok-table.ensures.ok in
    rw (e.1, e.2) (list_uncounted c.args.words.now t.0 t.1 c.in_err-count.ensures)

pub returns-then-count-word-clause-err : goal.returns-then-count-word-clause-err
returns-then-count-word-clause-err c =
    let t = c.in_ok-table.ensures.ok in
    rw c.refusal.ensures (list_miscounted c.args.words.now t.0 t.1 c.in_ok-count.ensures (λ e. c.if-count-word.true (rw c.word.ensures e)))

pub returns-clause-ok : goal.returns-clause-ok
returns-clause-ok c =
    let t = c.in_ok-table.ensures.ok in
    (t.0, list_counted c.args.words.now t.0 t.1 c.in_ok-count.ensures (c.if-count-word.false ∙ c.word.ensures))
