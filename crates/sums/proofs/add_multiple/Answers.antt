-- In a turn a term of f is written, or the next term of the multiple is taken. No answer names the test of the sum, so that an edit of it is refused for
-- what it means.
use Rattle.std.proofs.Common.{rules, ◌∙◌, ◌+◌, ◌*◌, ◌<◌, ◌≤◌, ◌%◌, refl, sym, ap, subst, length, length-set, get_or, arith}
use Rattle.std.proofs.lemmas.Slice.{between_to_end}
use native.Mathlib.Nat.{mod-lt}
use Rattle.residues.specs.Residue.{product, sum}
use Rattle.polynomials.specs.declared.Term.{Term as Packed}
use Rattle.sums.proofs.MergeLaws.{Taken, start, next_canonical, front_canonical, small_next, turn_f, subst_taken, taken_last, taken_alone, taken_both, turn_taken, rest_copied, nothing_left}
use Rattle.sums.proofs.add_multiple.Goals as goal
use Rattle.sums.proofs.add_multiple.Goals.{else-i-f-via-then-i-f+else-e-f, else-i-f-via-else-i-f, then-i-f-2+then-f-i, else-i-f-2, else-i-f-2-via-then-i-f-2+else-f-i, else-i-f-2-via-else-i-f-2}

-- Past the end of a slice.
abbrev none : Packed
none = record { coefficient = 0; monomial = 0 }

pub loop-left-init : goal.loop-left-init
loop-left-init c =
    let a = c.args in
    let q = c.requires in (refl, start a.p a.c a.m a.g.now a.f.now a.out.now q.f_canonical q.g_canonical.0 q.g_canonical.1)

pub loop-left-preserved-then-e-f : goal.loop-left-preserved-then-e-f
loop-left-preserved-then-e-f c =
    let l = c.loop-left in
    let more = c.loop-left-test.true in
    let small = small_next l.invariant.1 more none c.ranges.m.fits c.loop-left-test.element_fits.fits in (
      simp length-set l.invariant.0,
      turn_f l.invariant.1 more none small c.if-i-f.true (omega arith) c.if-i-f.element_fits.fits c.if-e-f.true,
    )

pub multiply-s-requires : goal.multiply-s-requires
multiply-s-requires c =
    let q = c.requires in (q.c_lt_p, (next_canonical c.loop-left.invariant.1 c.loop-left-test.true none).1)

pub add-s-requires : goal.add-s-requires
unfolding product
add-s-requires c =
    let a = c.args in
    let q = c.requires in (
      subst (λ z. z < a.p) (sym c.multiply-s.ensures) (mod-lt (a.c * (get_or c.loop-left.left.now 0 none).coefficient) (omega arith)),
      (front_canonical c.loop-left.invariant.1 c.loop-left-test.true none c.if-i-f-2.true).1,
    )

pub loop-left-preserved : goal.loop-left-preserved
unfolding product sum
loop-left-preserved c =
    let a = c.args in
    let l = c.loop-left in
    let H = l.invariant.1 in
    let more = c.loop-left-test.true in
    let small = small_next H more none c.ranges.m.fits c.loop-left-test.element_fits.fits in
    let not_above : l.i < length a.f.now → (get_or a.f.now l.i none).monomial ≤ a.m + (get_or l.left.now 0 none).monomial = λ h. elim c.else-i-f.branch [
      | else-i-f-via-then-i-f+else-e-f w ↦ w.if-e-f.false
      | else-i-f-via-else-i-f w ↦ absurd (omega (arith, w.if-i-f.false))
    ] in
    let taken : Taken a.p a.c a.m a.f.now l.left.now l.i (a.m + (get_or l.left.now 0 none).monomial) c.if-i-f-2.i c.if-i-f-2.s = elim c.if-i-f-2.branch [
      | then-i-f-2+then-f-i w ↦
          subst_taken (taken_both H more none small w.if-i-f-2.true w.if-f-i.true) w.i-is
          (w.s-is ∙ w.add-s.ensures ∙ ap (λ z. (z + (get_or a.f.now l.i none).coefficient) % a.p) c.multiply-s.ensures)
      | else-i-f-2 w ↦ elim w.else-i-f-2.branch [
        | else-i-f-2-via-then-i-f-2+else-f-i v ↦
            let ne = v.if-f-i.false in
            subst_taken (taken_alone H more none small v.if-i-f-2.true v.if-i-f-2.element_fits.fits (omega (arith, not_above v.if-i-f-2.true))) w.i-is (w.s-is ∙ c.multiply-s.ensures)
        | else-i-f-2-via-else-i-f-2 v ↦ subst_taken (taken_last H more none small v.if-i-f-2.false) w.i-is (w.s-is ∙ c.multiply-s.ensures)
      ]
    ] in
    let turn = turn_taken H more none taken (between_to_end l.left.now 1 (length l.left.now) (omega arith)) (omega (arith, H.k≤, more)) (λ h. (search rules, search rules)) (λ h. (search rules, search rules)) in
    (turn.0 ∙ l.invariant.0, turn.1)

pub returns-then-i-f-3 : goal.returns-then-i-f-3
returns-then-i-f-3 c =
    let f = c.args.f.now in
    rest_copied c.loop-left.invariant.1 (omega (arith, c.loop-left-test.false)) _ _ _ _ (between_to_end f _ (length f) (omega arith)) c.copy_from_slice.ensures.after refl (omega arith) (omega arith)

pub returns-else-i-f-3 : goal.returns-else-i-f-3
returns-else-i-f-3 c =
    let f = c.args.f.now in
    let H = c.loop-left.invariant.1 in
    nothing_left H (omega (arith, c.loop-left-test.false)) _ _ _ (between_to_end f _ (length f) (omega arith)) refl c.if-i-f-3.false (omega (arith, H.k≤)) (omega arith)
