use Rattle.std.proofs.Common.{rules, sym}
use Rattle.std.proofs.lemmas.Result.{err_from_is_err_and}
use Rattle.words.proofs.Accepted.{chain_read}
use Rattle.points.proofs.PointLaws.{table_refused, no_point, some_nonzero, all_zeros}
use Rattle.points.proofs.try_table.Goals as goal

pub returns-in_err-table : goal.returns-in_err-table
returns-in_err-table c =
    let p = err_from_is_err_and c.from_residual.result c.from_residual.ensures.1 in
    rw (p.1, p.2) (table_refused c.args.table.now c.args.point.now c.in_err-table.ensures.err)

pub returns-in_err-point : goal.returns-in_err-point
returns-in_err-point c =
    let p = err_from_is_err_and c.from_residual-in_err-point.result c.from_residual-in_err-point.ensures.1 in
    let T = c.in_ok-table.ensures.ok in
    let e = c.in_err-point.ensures.err in
    rw (p.1, p.2, e.0) (no_point T.0 T.1.1 c.args.point.now (sym e.1))

pub all_zero-requires-clause-read : goal.all_zero-requires-clause-read
all_zero-requires-clause-read c = let T = c.in_ok-table.ensures.ok in rw c.in_ok-point.ensures.ok.0 (chain_read T.0 T.1.1 (search rules))

pub none_zero-requires-clause-read : goal.none_zero-requires-clause-read
none_zero-requires-clause-read c = let T = c.in_ok-table.ensures.ok in rw c.in_ok-point.ensures.ok.0 (chain_read T.0 T.1.1 (search rules))

pub returns-then-all_zero : goal.returns-then-all_zero
returns-then-all_zero c =
    let T = c.in_ok-table.ensures.ok in
    let P = c.in_ok-point.ensures.ok in
    all_zeros T.0 T.1.1 c.args.point.now (sym P.2) c.word.ensures (rw (P.0, P.1) at c.all_zero.ensures) c.if-all_zero.true
    c.word-then-all_zero.ensures (rw (P.0, P.1) at c.none_zero.ensures)

pub returns-else-all_zero : goal.returns-else-all_zero
returns-else-all_zero c =
    let T = c.in_ok-table.ensures.ok in
    let P = c.in_ok-point.ensures.ok in
    some_nonzero T.0 T.1.1 c.args.point.now (sym P.2) c.word.ensures (rw (P.0, P.1) at c.all_zero.ensures) c.if-all_zero.false
