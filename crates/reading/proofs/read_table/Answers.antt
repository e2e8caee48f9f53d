-- The header, then P's chain, then Q's, as the definition reads them.
use Rattle.std.proofs.Common.{◌∙◌, ap}
use Rattle.std.proofs.lemmas.Result.{err_from_is_err_and}
use Rattle.tables.specs.Solve.{checked}
use Rattle.reading.proofs.ReadLaws.{table_refused, table_refused_p, table_refused_q, table_accepted, heads_same}
use Rattle.reading.proofs.read_table.Goals as goal

pub returns-in_err-table-clause-err : goal.returns-in_err-table-clause-err
returns-in_err-table-clause-err c =
    let p = err_from_is_err_and c.from_residual.result c.from_residual.ensures.1 in
    rw (p.1, p.2) (table_refused c.args.words.now c.in_err-table.ensures.err)

pub returns-in_err-check_heads-clause-err : goal.returns-in_err-check_heads-clause-err
returns-in_err-check_heads-clause-err c =
    let p = err_from_is_err_and c.from_residual-in_err-check_heads.result c.from_residual-in_err-check_heads.ensures.1 in
    let T = c.in_ok-table.ensures.ok in
    rw (p.1, p.2) (table_refused_p c.args.words.now T.1 (c.in_err-check_heads.ensures ∙ ap checked (heads_same c.args.words.now T.0 2 c.word.ensures)))

pub returns-in_err-check_heads-2-clause-err : goal.returns-in_err-check_heads-2-clause-err
returns-in_err-check_heads-2-clause-err c =
    let p = err_from_is_err_and c.from_residual-in_err-check_heads-2.result c.from_residual-in_err-check_heads-2.ensures.1 in
    let T = c.in_ok-table.ensures.ok in
    rw (p.1, p.2)
    (table_refused_q c.args.words.now T.1 (c.in_ok-check_heads.ensures ∙ ap checked (heads_same c.args.words.now T.0 2 c.word.ensures))
    (c.in_err-check_heads-2.ensures ∙ ap checked (heads_same c.args.words.now T.0 3 c.word-2.ensures)))

pub returns-clause-ok : goal.returns-clause-ok
returns-clause-ok c =
    let T = c.in_ok-table.ensures.ok in (
      T.0,
      table_accepted c.args.words.now T.1 (c.in_ok-check_heads.ensures ∙ ap checked (heads_same c.args.words.now T.0 2 c.word.ensures))
          (c.in_ok-check_heads-2.ensures ∙ ap checked (heads_same c.args.words.now T.0 3 c.word-2.ensures)),
    )
