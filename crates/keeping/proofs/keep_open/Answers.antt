-- The numbers that the code reads lie as `Placed` says, and so in order; there is room for each piece where the ones before it are in; and what is
-- held at the end is `kept`.
use Rattle.std.proofs.Common.{refl, sym, List, ℕ, length, length-set, arith}
use Rattle.records.specs.Records.{view}
use Rattle.records.proofs.Rows.{length_view, view_set}
use Rattle.branches.specs.Area.{Stored, with_open, HeldIn}
use Rattle.branches.proofs.OpenLaws.{p_is, skip_p_inside}
use Rattle.branches.proofs.RowLaws.{ctl_word, own_word, open_row, systems_row}
use Rattle.keeping.proofs.BeyondKept.{copied_beyond}
use Rattle.keeping.proofs.KeptLaws.{Placed, Ordered, Copied, placed, ordered, all_inside, back_ends, p_ends, q_ends, no_room, kept}
use Rattle.keeping.proofs.keep_open.Goals as goal
use Rattle.keeping.proofs.keep_open.Goals.{After-skip-from_t}

-- ── what is read ──
lie : (k : After-skip-from_t) {b : Stored} {bs ss : List Stored} (H : HeldIn k.args.w.now (with_open b bs ss))
    → Placed b bs k.args.i k.args.n (length H.free) (ctl_word k.args.w.now 0) (ctl_word k.args.w.now 1) (ctl_word k.args.w.now 2) (own_word k.args.w.now 1)
    (own_word k.args.w.now 2) k.skip-front.result k.skip-back.result k.skip-from_q.result k.skip-from_t.result
lie k H = placed k.args.w.now H k.args.i k.args.n (k.requires.when_open _ _ _ H) k.skip-front.ensures k.skip-back.ensures k.skip-from_q.ensures k.skip-from_t.ensures

in_order : (k : After-skip-from_t) → Ordered k.args.n (ctl_word k.args.w.now 0) (ctl_word k.args.w.now 1) (ctl_word k.args.w.now 2) (own_word k.args.w.now 1) k.skip-front.result
    k.skip-back.result k.skip-from_q.result k.skip-from_t.result (length k.args.w.now)
in_order k =
    let o = k.requires.opened in
    let a = k.args in
    ordered o.3 a.i a.n (k.requires.when_open _ _ _ o.3) a.f.now a.initial.now (lie k o.3) (length a.w.now) (length_view a.w.now)

-- ── where the parts end ──
pub skip-front-requires : goal.skip-front-requires
skip-front-requires c =
    let o = c.requires.opened in
    omega (arith, skip_p_inside o.3 (open_row c.args.w.now o.3) c.args.i (omega (arith, c.requires.when_open _ _ _ o.3)))

pub overflow_sub-n : goal.overflow_sub-n
overflow_sub-n c = let o = c.requires.opened in (c.requires.when_open _ _ _ o.3).0

pub skip-back-requires : goal.skip-back-requires
skip-back-requires c =
    let o = c.requires.opened in
    let h = c.requires.when_open _ _ _ o.3 in
    let i = c.args.i in
    let n = c.args.n in
    omega (arith, back_ends o.3 i n h (open_row c.args.w.now o.3) c.skip-front.ensures refl, all_inside o.3 i n h)

pub overflow_sub-p : goal.overflow_sub-p
overflow_sub-p c = let o = c.requires.opened in omega (arith, p_is o.3 (open_row c.args.w.now o.3), (c.requires.when_open _ _ _ o.3).1)

pub skip-from_q-requires : goal.skip-from_q-requires
skip-from_q-requires c =
    let o = c.requires.opened in
    let h = c.requires.when_open _ _ _ o.3 in
    let i = c.args.i in
    let n = c.args.n in
    omega (arith, p_ends o.3 i n h (open_row c.args.w.now o.3) c.skip-front.ensures c.skip-back.ensures refl, all_inside o.3 i n h)

pub skip-from_t-requires : goal.skip-from_t-requires
skip-from_t-requires c =
    let o = c.requires.opened in
    let h = c.requires.when_open _ _ _ o.3 in
    let i = c.args.i in
    let n = c.args.n in
    omega (arith, q_ends o.3 i n h (open_row c.args.w.now o.3) c.skip-front.ensures c.skip-back.ensures c.skip-from_q.ensures refl, all_inside o.3 i n h)

-- ── the numbers ──
pub overflow_sub-size : goal.overflow_sub-size
overflow_sub-size c = omega (arith, in_order (goal.at.overflow_sub-size c).After-skip-from_t)

pub overflow_add-size-4 : goal.overflow_add-size-4
overflow_add-size-4 c = omega (arith, in_order (goal.at.overflow_add-size-4 c).After-skip-from_t, c.requires.storable.few)

pub overflow_sub-size-2 : goal.overflow_sub-size-2
overflow_sub-size-2 c = omega (arith, in_order (goal.at.overflow_sub-size-2 c).After-skip-from_t)

pub overflow_add-size-5 : goal.overflow_add-size-5
overflow_add-size-5 c = omega (arith, in_order (goal.at.overflow_add-size-5 c).After-skip-from_t, c.requires.storable.few)

pub overflow_add-size-7 : goal.overflow_add-size-7
overflow_add-size-7 c = omega (arith, in_order (goal.at.overflow_add-size-7 c).After-skip-from_t, c.requires.storable.few, c.requires.storable_2.few)

pub overflow_sub-size-3 : goal.overflow_sub-size-3
overflow_sub-size-3 c = omega (arith, in_order (goal.at.overflow_sub-size-3 c).After-skip-from_t)

pub overflow_add-size-8 : goal.overflow_add-size-8
overflow_add-size-8 c = omega (arith, in_order (goal.at.overflow_add-size-8 c).After-skip-from_t, c.requires.storable.few, c.requires.storable_2.few)

pub overflow_add-w : goal.overflow_add-w
overflow_add-w c = omega (arith, in_order (goal.at.overflow_add-w c).After-skip-from_t)

pub overflow_cast-w : goal.overflow_cast-w
overflow_cast-w c = omega (arith, in_order (goal.at.overflow_cast-w c).After-skip-from_t)

pub overflow_add-w-2 : goal.overflow_add-w-2
overflow_add-w-2 c = omega (arith, in_order (goal.at.overflow_add-w-2 c).After-skip-from_t)

pub overflow_sub-front : goal.overflow_sub-front
overflow_sub-front c = omega (arith, in_order (goal.at.overflow_sub-front c).After-skip-from_t)

pub overflow_sub-back : goal.overflow_sub-back
overflow_sub-back c = omega (arith, in_order (goal.at.overflow_sub-back c).After-skip-from_t)

pub overflow_sub-from_t : goal.overflow_sub-from_t
overflow_sub-from_t c = omega (arith, in_order (goal.at.overflow_sub-from_t c).After-skip-from_t)

pub overflow_sub-end : goal.overflow_sub-end
overflow_sub-end c = omega (arith, in_order (goal.at.overflow_sub-end c).After-skip-from_t)

-- ── the pieces fit ──
pub append_block-to-requires : goal.append_block-to-requires
append_block-to-requires c = let o = in_order (goal.at.append_block-to-requires c).After-skip-from_t in (omega (arith, o, length-set {A = List ℕ}), omega (arith, o, length-set {A = List ℕ}))

pub append-to-requires-clause-f_bound : goal.append-to-requires-clause-f_bound
append-to-requires-clause-f_bound c = omega (arith, in_order (goal.at.append-to-requires-clause-f_bound c).After-skip-from_t, length-set {A = List ℕ})

pub append_block-to-requires-2 : goal.append_block-to-requires-2
append_block-to-requires-2 c = let o = in_order (goal.at.append_block-to-requires-2 c).After-skip-from_t in (omega (arith, o, length-set {A = List ℕ}), omega (arith, o, length-set {A = List ℕ}))

pub append_block-to-requires-3 : goal.append_block-to-requires-3
append_block-to-requires-3 c = let o = in_order (goal.at.append_block-to-requires-3 c).After-skip-from_t in (omega (arith, o, length-set {A = List ℕ}), omega (arith, o, length-set {A = List ℕ}))

pub append-to-requires-2-clause-f_bound : goal.append-to-requires-2-clause-f_bound
append-to-requires-2-clause-f_bound c = omega (arith, in_order (goal.at.append-to-requires-2-clause-f_bound c).After-skip-from_t, length-set {A = List ℕ})

pub append_block-to-requires-4 : goal.append_block-to-requires-4
append_block-to-requires-4 c = let o = in_order (goal.at.append_block-to-requires-4 c).After-skip-from_t in (omega (arith, o, length-set {A = List ℕ}), omega (arith, o, length-set {A = List ℕ}))

pub overflow_cast-w-4 : goal.overflow_cast-w-4
overflow_cast-w-4 c = omega (arith, in_order (goal.at.overflow_cast-w-4 c).After-skip-from_t)

-- ── what is left ──
pub returns-then-top-end : goal.returns-then-top-end
returns-then-top-end c = record {
  when_open_2 = λ b bs ss H.
      let a = c.args in
      no_room H a.i a.n (c.requires.when_open b bs ss H) a.f.now a.initial.now (lie (goal.at.returns-then-top-end c).After-skip-from_t H) c.if-top-end.true;
  beyond_stays = refl;
}

pub returns : goal.returns
returns c =
    let a = c.args in
    let w = a.w.now in
    let k = (goal.at.returns c).After-skip-from_t in
    let pieces : Copied (view w) a.n (ctl_word w 0) (ctl_word w 1) (ctl_word w 2) (ctl_word w 3) (own_word w 1) (own_word w 2) k.skip-front.result k.skip-back.result
    k.skip-from_q.result k.skip-from_t.result a.f.now a.initial.now _ =
    record {
      v₁ = _;
      own_put = view_set w (ctl_word w 1) _ _ _ _;
      a₁ = c.append_block-to.result;
      v₂ = view c.append_block-to.new.w;
      front_copied = c.append_block-to.ensures;
      a₂ = c.append-to.result;
      v₃ = view c.append-to.new.w;
      f_put = c.append-to.ensures;
      a₃ = c.append_block-to-2.result;
      v₄ = view c.append_block-to-2.new.w;
      back_copied = c.append_block-to-2.ensures;
      a₄ = c.append_block-to-3.result;
      v₅ = view c.append_block-to-3.new.w;
      q_copied = c.append_block-to-3.ensures;
      a₅ = c.append-to-2.result;
      v₆ = view c.append-to-2.new.w;
      initial_put = c.append-to-2.ensures;
      a₆ = c.append_block-to-4.result;
      v₇ = view c.append_block-to-4.new.w;
      t_copied = c.append_block-to-4.ensures;
      control_put = view_set c.append_block-to-4.new.w 0 _ _ _ _;
    } in
    record {
      when_open_2 = λ b bs ss H.
          kept H a.i a.n (c.requires.when_open b bs ss H) a.f.now a.initial.now (lie k H) c.if-top-end.false c.requires.storable c.requires.storable_2
          (systems_row w H) pieces;
      beyond_stays = copied_beyond (in_order k) (sym (length_view w)) c.if-top-end.false pieces;
    }
