-- Each turn adds the rows of two terms.
use Rattle.std.proofs.Common.{◌-◌, refl, sym, length, arith, inl, inr, length-take-le}
use Rattle.polynomials.specs.Packed.{terms}
use Rattle.polynomials.specs.declared.Term.{Term as Packed}
use Rattle.gathering.proofs.GatherLaws.{factors, row_residue, row_within, rows_canonical, none_gathering, first_gathering, no_room, terms_small, upper_residue, upper_within, upper_terms, upper_canonical, lower_residue, lower_within, again, stopped, all_gathered}
use Rattle.gathering.proofs.gather.Goals as goal
use Rattle.gathering.proofs.gather.Goals.{then-f-eq1, else-f-eq1}

-- Past the end of a slice.
abbrev none : Packed
none = record { coefficient = 0; monomial = 0 }

pub add_multiple-n-requires-clause-c_lt_p : goal.add_multiple-n-requires-clause-c_lt_p
add_multiple-n-requires-clause-c_lt_p c =
    let q = c.requires in
    row_residue (factors q.holds q.holds_2) (length c.args.f.now - 1) none _ (omega arith) refl

pub add_multiple-n-requires-clause-g_canonical : goal.add_multiple-n-requires-clause-g_canonical
add_multiple-n-requires-clause-g_canonical c =
    let q = c.requires in
    (q.holds_2.0.canonical, row_within (factors q.holds q.holds_2) (length c.args.f.now - 1) none _ (omega arith) refl)

pub add_multiple-n-requires-clause-f_canonical : goal.add_multiple-n-requires-clause-f_canonical
unfolding terms
add_multiple-n-requires-clause-f_canonical c = tt

pub loop-rows-init : goal.loop-rows-init
loop-rows-init c =
    let q = c.requires in
    let F = factors q.holds q.holds_2 in
    elim c.if-f-eq1.branch [
      | then-f-eq1 w ↦ rw (w.x-is, w.rows-is, w.n-is) (first_gathering F _ none w.if-f-eq1.true refl w.add_multiple-n.result w.add_multiple-n.new.out w.add_multiple-n.ensures)
      | else-f-eq1 w ↦ rw (w.x-is, w.rows-is, w.n-is) (none_gathering F c.args.x.now (omega (arith, w.if-f-eq1.false)))
    ]

pub overflow_add-n : goal.overflow_add-n
overflow_add-n c = record { fits = omega (arith, terms_small c.loop-rows.invariant c.in-len2-up.len_at_least none) }

pub returns-then-z-n : goal.returns-then-z-n
returns-then-z-n c = inr (no_room c.loop-rows.invariant c.in-len2-up.len_at_least none _ (omega arith))

pub slice_bounds-add_multiple-end-in-len2-up : goal.slice_bounds-add_multiple-end-in-len2-up
slice_bounds-add_multiple-end-in-len2-up c = c.loop-rows.invariant.gathered.written.within

pub slice_bounds-add_multiple-end-in-len2-up-2 : goal.slice_bounds-add_multiple-end-in-len2-up-2
slice_bounds-add_multiple-end-in-len2-up-2 c = sym (length-take-le c.loop-rows.n c.loop-rows.x c.loop-rows.invariant.gathered.written.within)

pub add_multiple-m-requires-clause-c_lt_p : goal.add_multiple-m-requires-clause-c_lt_p
add_multiple-m-requires-clause-c_lt_p c = upper_residue c.loop-rows.invariant c.in-len2-up.len_at_least none

pub add_multiple-m-requires-clause-g_canonical : goal.add_multiple-m-requires-clause-g_canonical
add_multiple-m-requires-clause-g_canonical c = (c.requires.holds_2.0.canonical, upper_within c.loop-rows.invariant c.in-len2-up.len_at_least none)

pub add_multiple-m-requires-clause-f_canonical : goal.add_multiple-m-requires-clause-f_canonical
add_multiple-m-requires-clause-f_canonical c = rows_canonical c.loop-rows.invariant.factors c.loop-rows.invariant.gathered

pub returns-then-x-m : goal.returns-then-x-m
returns-then-x-m c =
    let G = c.loop-rows.invariant in
    let more = c.in-len2-up.len_at_least in
    inl (no_room G more none _ (omega (arith, upper_terms G more none c.add_multiple-m.ensures)))

pub add_multiple-n-requires-in-len2-up-clause-c_lt_p : goal.add_multiple-n-requires-in-len2-up-clause-c_lt_p
add_multiple-n-requires-in-len2-up-clause-c_lt_p c = lower_residue c.loop-rows.invariant c.in-len2-up.len_at_least none

pub add_multiple-n-requires-in-len2-up-clause-g_canonical : goal.add_multiple-n-requires-in-len2-up-clause-g_canonical
add_multiple-n-requires-in-len2-up-clause-g_canonical c = (c.requires.holds_2.0.canonical, lower_within c.loop-rows.invariant c.in-len2-up.len_at_least none)

pub add_multiple-n-requires-in-len2-up-clause-f_canonical : goal.add_multiple-n-requires-in-len2-up-clause-f_canonical
add_multiple-n-requires-in-len2-up-clause-f_canonical c = upper_canonical c.loop-rows.invariant c.in-len2-up.len_at_least none c.add_multiple-m.ensures

pub returns-then-left-g : goal.returns-then-left-g
returns-then-left-g c =
    stopped c.loop-rows.invariant c.in-len2-up.len_at_least none c.add_multiple-m.ensures c.add_multiple-n-in-len2-up.ensures _ refl c.if-left-g.true

pub loop-rows-preserved : goal.loop-rows-preserved
loop-rows-preserved c =
    again c.loop-rows.invariant c.in-len2-up.len_at_least none c.add_multiple-m.ensures c.add_multiple-n-in-len2-up.ensures _ refl c.if-left-g.false

pub returns : goal.returns
returns c = all_gathered c.loop-rows.invariant c.in_default.len_below
