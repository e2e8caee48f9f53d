-- What is held after each call, from the calls' contracts; `no_initial` and `no_rest` where there is no room, `kept_aside` at the end.
use Rattle.std.proofs.Common.{◌≡◌, refl, ap, ◌∙◌, ◌∷◌, ◌+◌, ◌-◌, length, arith}
use Rattle.branches.specs.Area.{Stored, with_open, aside, used}
use Rattle.std.specs.Prelude.{is_ok, is_err}
use Rattle.branches.proofs.LeavesLaws.{handed}
use Rattle.branches.proofs.LengthLaws.{left_by}
use Rattle.branches.proofs.OpenLaws.{p_is}
use Rattle.branches.proofs.Unique.{of_every}
use Rattle.splits.proofs.AsideLaws.{length_aside, kept_aside, no_initial, no_rest, stops_aside}
use Rattle.splits.proofs.AsideLaws.{Taken, Put, removed, initial_leaves, initial_put, same_rest, rest_leaves, rest_put}
use Rattle.splits.proofs.split.Goals as goal

pub remove-requires-clause-when_open : goal.remove-requires-clause-when_open
remove-requires-clause-when_open c b bs ss H = (c.requires.when_open b bs ss H).0

pub put_p-requires-clause-opened : goal.put_p-requires-clause-opened
put_p-requires-clause-opened c =
    let o = c.requires.opened in
    let out : Taken c.args.w.now c.args.i c.remove.new.w = record { same = c.remove.auto.w; out = c.remove.ensures.open_becomes } in
    (_, _, _, removed out o.3)

pub returns-in_err-put_p : goal.returns-in_err-put_p
returns-in_err-put_p c = record {
  when_open_2 = λ b bs ss H.
      let a = c.args in
      let out : Taken c.args.w.now c.args.i c.remove.new.w = record { same = c.remove.auto.w; out = c.remove.ensures.open_becomes } in
      let first : Put c.remove.new.w c.args.initial.now c.put_p.result c.put_p.new.w = record { same = c.put_p.auto.w; put = c.put_p.ensures.when_open } in
      handed c.from_residual.result c.from_residual.ensures.1 c.in_err-put_p.was
      (no_initial (used a.w.now) a.i a.initial.now a.rest.now b bs ss (initial_leaves out H first) (ap is_err c.in_err-put_p.was));
  beyond_stays = c.put_p.ensures.beyond_stays ∙ c.remove.ensures.beyond_stays;
}

pub put_p-requires-2-clause-opened : goal.put_p-requires-2-clause-opened
put_p-requires-2-clause-opened c =
    let o = c.requires.opened in
    let out : Taken c.args.w.now c.args.i c.remove.new.w = record { same = c.remove.auto.w; out = c.remove.ensures.open_becomes } in
    let first : Put c.remove.new.w c.args.initial.now c.put_p.result c.put_p.new.w = record { same = c.put_p.auto.w; put = c.put_p.ensures.when_open } in
    (_, _, _, initial_put out o.3 first (ap is_ok c.in_ok-put_p.was))

pub returns-in_err-put_p-2 : goal.returns-in_err-put_p-2
returns-in_err-put_p-2 c = record {
  when_open_2 = λ b bs ss H.
      let a = c.args in
      let out : Taken c.args.w.now c.args.i c.remove.new.w = record { same = c.remove.auto.w; out = c.remove.ensures.open_becomes } in
      let first : Put c.remove.new.w c.args.initial.now c.put_p.result c.put_p.new.w = record { same = c.put_p.auto.w; put = c.put_p.ensures.when_open } in
      let second : Put c.put_p.new.w c.args.rest.now c.put_p-2.result c.put_p-2.new.w = record { same = c.put_p-2.auto.w; put = c.put_p-2.ensures.when_open } in
      handed c.from_residual-in_err-put_p-2.result c.from_residual-in_err-put_p-2.ensures.1 c.in_err-put_p-2.was
      (no_rest (used a.w.now) a.i a.initial.now a.rest.now b bs ss (initial_leaves out H first) (ap is_ok c.in_ok-put_p.was)
      (rest_leaves out H first (ap is_ok c.in_ok-put_p.was) second) (ap is_err c.in_err-put_p-2.was));
  beyond_stays = c.put_p-2.ensures.beyond_stays ∙ c.put_p.ensures.beyond_stays ∙ c.remove.ensures.beyond_stays;
}

pub overflow_sub-b : goal.overflow_sub-b
overflow_sub-b c =
    let o = c.requires.opened in
    omega (arith, p_is o.3 (c.open_branch-b.ensures o.0 o.1 o.2 o.3), (c.requires.when_open o.0 o.1 o.2 o.3).0)

pub keep_open-requires-clause-opened : goal.keep_open-requires-clause-opened
keep_open-requires-clause-opened c =
    let o = c.requires.opened in
    let out : Taken c.args.w.now c.args.i c.remove.new.w = record { same = c.remove.auto.w; out = c.remove.ensures.open_becomes } in
    let first : Put c.remove.new.w c.args.initial.now c.put_p.result c.put_p.new.w = record { same = c.put_p.auto.w; put = c.put_p.ensures.when_open } in
    let second : Put c.put_p.new.w c.args.rest.now c.put_p-2.result c.put_p-2.new.w = record { same = c.put_p-2.auto.w; put = c.put_p-2.ensures.when_open } in
    (_, _, _, rest_put out o.3 first (ap is_ok c.in_ok-put_p.was) second (ap is_ok c.in_ok-put_p-2.was))

pub keep_open-requires-clause-when_open : goal.keep_open-requires-clause-when_open
keep_open-requires-clause-when_open c b bs ss K =
    let a = c.args in
    let o = c.requires.opened in
    let out : Taken c.args.w.now c.args.i c.remove.new.w = record { same = c.remove.auto.w; out = c.remove.ensures.open_becomes } in
    let first : Put c.remove.new.w c.args.initial.now c.put_p.result c.put_p.new.w = record { same = c.put_p.auto.w; put = c.put_p.ensures.when_open } in
    let second : Put c.put_p.new.w c.args.rest.now c.put_p-2.result c.put_p-2.new.w = record { same = c.put_p-2.auto.w; put = c.put_p-2.ensures.when_open } in
    let H = rest_put out o.3 first (ap is_ok c.in_ok-put_p.was) second (ap is_ok c.in_ok-put_p-2.was) in
    let h = (c.requires.when_open o.0 o.1 o.2 o.3).0 in
    let p = p_is o.3 (c.open_branch-b.ensures o.0 o.1 o.2 o.3) in
    let members = of_every (λ P Q. length (aside a.i a.initial.now a.rest.now o.0).P ≡ length P) H refl b bs ss K in
    (omega (arith, h, p), omega (arith, p, members, length_aside a.i a.initial.now a.rest.now o.0 h))

pub returns : goal.returns
returns c = record {
  when_open_2 = λ b bs ss H.
      let a = c.args in
      let out : Taken c.args.w.now c.args.i c.remove.new.w = record { same = c.remove.auto.w; out = c.remove.ensures.open_becomes } in
      let first : Put c.remove.new.w c.args.initial.now c.put_p.result c.put_p.new.w = record { same = c.put_p.auto.w; put = c.put_p.ensures.when_open } in
      let second : Put c.put_p.new.w c.args.rest.now c.put_p-2.result c.put_p-2.new.w = record { same = c.put_p-2.auto.w; put = c.put_p-2.ensures.when_open } in
      let h = c.requires.when_open b bs ss H in
      let n : c.open_branch-b.result.p - 1 + 1 ≡ length b.P = omega (arith, p_is H (c.open_branch-b.ensures b bs ss H), h.0) in
      let waits = aside a.i a.initial.now a.rest.now b in
      left_by _ _ c.put_p-2.new.w a.w.now (same_rest out H first (ap is_ok c.in_ok-put_p.was) second)
      (stops_aside (used a.w.now) a.i a.initial.now a.rest.now b bs ss (rest_leaves out H first (ap is_ok c.in_ok-put_p.was) second) (ap is_ok c.in_ok-put_p-2.was))
      (ap (λ (x : Stored). with_open x (waits ∷ bs) ss) (kept_aside a.i _ a.f.now a.initial.now a.rest.now b h.0 n h.1 h.2 h.3))
      (c.keep_open.ensures.when_open_2 _ bs ss (rest_put out H first (ap is_ok c.in_ok-put_p.was) second (ap is_ok c.in_ok-put_p-2.was)));
  beyond_stays = c.keep_open.ensures.beyond_stays ∙ c.put_p-2.ensures.beyond_stays ∙ c.put_p.ensures.beyond_stays ∙ c.remove.ensures.beyond_stays;
}
