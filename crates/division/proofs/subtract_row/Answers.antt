-- a minus one term times t is a plus t times the negative term.
use Rattle.std.proofs.Common.{◌∙◌, sym, arith}
use Rattle.division.proofs.RoundLaws.{factor_coefficient, factor_fits, row_refused, row_formed}
use Rattle.division.proofs.subtract_row.Goals as goal

pub returns-then-degrees_over : goal.returns-then-degrees_over
returns-then-degrees_over c =
    let a = c.args in
    let q = c.requires in
    row_refused a.p a.r.now a.t.now q.r_nonempty q.factor _ _ (sym c.degrees_over.ensures ∙ c.if-degrees_over.true)

pub overflow_sub-get : goal.overflow_sub-get
overflow_sub-get c =
    let q = c.requires in
    omega (arith, factor_coefficient c.args.p c.args.r.now c.args.t.now q.r_nonempty q.factor)

pub add_multiple-requires-clause-c_lt_p : goal.add_multiple-requires-clause-c_lt_p
add_multiple-requires-clause-c_lt_p c =
    let q = c.requires in
    omega (arith, factor_coefficient c.args.p c.args.r.now c.args.t.now q.r_nonempty q.factor)

pub add_multiple-requires-clause-g_canonical : goal.add_multiple-requires-clause-g_canonical
add_multiple-requires-clause-g_canonical c =
    let q = c.requires in
    (q.t_holds.canonical, factor_fits c.args.p c.args.r.now c.args.t.now q.r_nonempty q.factor (sym c.degrees_over.ensures ∙ c.if-degrees_over.false))

pub returns : goal.returns
returns c =
    let a = c.args in
    let q = c.requires in
    row_formed a.p a.r.now a.t.now q.r_nonempty q.factor a.a.now q.t_holds q.a_holds (sym c.degrees_over.ensures ∙ c.if-degrees_over.false) _ _
    (c.within.ensures _ _ (rw c.get.ensures.is at c.add_multiple.ensures))
