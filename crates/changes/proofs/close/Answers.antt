-- The member is taken out of P, and put in before T, where there is room for it then.
use Rattle.std.proofs.Common.{◌∙◌, ap, length, arith}
use Rattle.branches.proofs.LengthLaws.{held_by}
use Rattle.branches.proofs.OpenLaws.{end_p_inside, end_q_inside}
use Rattle.places.proofs.PlaceLaws.{counts_are, counts_fit}
use Rattle.changes.proofs.ChangeLaws.{taken, put_t, freed}
use Rattle.changes.proofs.close.Goals as goal

pub remove-requires-clause-when_open : goal.remove-requires-clause-when_open
remove-requires-clause-when_open c b bs ss H = (c.requires.when_open b bs ss H).0

pub open_branch-b-requires : goal.open_branch-b-requires
open_branch-b-requires c = (_, _, _, taken c.args.w.now c.remove.new.w c.remove.auto.w c.args.i c.remove.ensures.open_becomes c.requires.opened.3)

pub skip-requires : goal.skip-requires
skip-requires c =
    let out = taken c.args.w.now c.remove.new.w c.remove.auto.w c.args.i c.remove.ensures.open_becomes c.requires.opened.3 in
    omega (arith, end_p_inside out (c.open_branch-b.ensures _ _ _ out))

pub skip-to-requires : goal.skip-to-requires
skip-to-requires c =
    let out = taken c.args.w.now c.remove.new.w c.remove.auto.w c.args.i c.remove.ensures.open_becomes c.requires.opened.3 in
    omega (arith, end_q_inside out (c.open_branch-b.ensures _ _ _ out) c.skip.ensures)

pub overflow_add-b : goal.overflow_add-b
overflow_add-b c =
    let out = taken c.args.w.now c.remove.new.w c.remove.auto.w c.args.i c.remove.ensures.open_becomes c.requires.opened.3 in
    (counts_fit out (counts_are out (c.open_branch-b.ensures _ _ _ out))).2

pub put_in-requires-clause-some_open : goal.put_in-requires-clause-some_open
put_in-requires-clause-some_open c =
    let o = c.requires.opened in
    let out = taken c.args.w.now c.remove.new.w c.remove.auto.w c.args.i c.remove.ensures.open_becomes o.3 in
    let is = c.open_branch-b.ensures _ _ _ out in
    (_, _, _, put_t o.0 c.args.i out is c.args.f.now (c.requires.when_open _ _ _ o.3).1 c.skip.ensures c.skip-to.ensures)

pub put_in-requires-clause-room : goal.put_in-requires-clause-room
put_in-requires-clause-room c =
    let o = c.requires.opened in
    let out = taken c.args.w.now c.remove.new.w c.remove.auto.w c.args.i c.remove.ensures.open_becomes o.3 in
    let member = c.requires.when_open _ _ _ o.3 in
    omega (arith, freed o.0 c.args.i c.args.w.now c.remove.new.w c.remove.auto.w member.0 o.3 out, ap length member.1)

pub returns : goal.returns
returns c = record {
  open_becomes = λ b bs ss H.
      let w = c.args.w.now in
      let w₁ = c.remove.new.w in
      let member = c.requires.when_open b bs ss H in
      let out = taken w w₁ c.remove.auto.w c.args.i c.remove.ensures.open_becomes H in
      let is = c.open_branch-b.ensures _ _ _ out in
      held_by _ _ w₁ w c.remove.auto.w (c.put_in.ensures.held _ _ _ (put_t b c.args.i out is c.args.f.now member.1 c.skip.ensures c.skip-to.ensures));
  beyond_stays = c.put_in.ensures.beyond_stays ∙ c.remove.ensures.beyond_stays;
}
