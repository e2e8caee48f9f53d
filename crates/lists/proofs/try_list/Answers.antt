use Rattle.std.proofs.Common.{sym}
use Rattle.std.proofs.lemmas.Result.{err_from_is_err_and}
use Rattle.lists.proofs.ListLaws.{try_refused, systems_of, no_point, point_placed}
use Rattle.lists.proofs.try_list.Goals as goal

pub returns-in_err-list : goal.returns-in_err-list
returns-in_err-list c =
    let e = err_from_is_err_and c.from_residual.result c.from_residual.ensures.1 in
    rw (e.1, e.2) (try_refused c.args.table.now c.args.point.now c.in_err-list.ensures.err)

pub returns-in_err-point : goal.returns-in_err-point
returns-in_err-point c =
    let e = err_from_is_err_and c.from_residual-in_err-point.result c.from_residual-in_err-point.ensures.1 in
    let t = c.in_ok-list.ensures.ok in
    let x = c.in_err-point.ensures.err in
    rw (e.1, e.2, x.0) (no_point t.0 t.1.1 c.args.point.now (sym x.1))

pub first_solved-requires : goal.first_solved-requires
first_solved-requires c = let t = c.in_ok-list.ensures.ok in rw c.in_ok-point.ensures.ok.0 (record { read = (t.1.0.systems, systems_of t.0 t.1.1) })

pub returns : goal.returns
returns c =
    let t = c.in_ok-list.ensures.ok in
    let x = c.in_ok-point.ensures.ok in
    point_placed t.0 t.1.1 c.args.point.now (sym x.2) (rw (x.0, x.1) at c.first_solved.ensures)
