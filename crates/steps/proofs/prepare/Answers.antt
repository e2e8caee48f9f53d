-- What the survey chose is the rule that fits. No answer names the call that drops or lists the branch, so that an edit which puts one for the other
-- is refused for what it means.
use Rattle.std.proofs.Common.{◌∙◌, sym, subst, ℕ, ◌∷◌, arith}
use Rattle.records.specs.Records.{view}
use Rattle.branches.specs.Area.{used}
use Rattle.rules.specs.Step.{Stepped}
use Rattle.representation.specs.Represent.{branch_of}
use Rattle.representation.specs.laws.Steps.{drop_state, list_state}
use Rattle.representation.specs.Ready.{limits_in}
use Rattle.steps.specs.Pending.{Prepares}
use Rattle.steps.proofs.PrepareLaws.{all_hold}
use Rattle.steps.proofs.ChoiceLaws.{chosen_drop, chosen_list, chosen_pivot, step_by, ready_dropped, ready_listed, map_none}
use Rattle.branches.proofs.Unique.{of_every}
use Rattle.heads.specs.Heads.{AllHold}
use Rattle.steps.proofs.prepare.Goals as goal

pub choose-requires-clause-when_open : goal.choose-requires-clause-when_open
choose-requires-clause-when_open c =
    let o = c.requires.ready in
    let h = o.4.sound.branches.0 in
    of_every (λ P Q. (p : ℕ) × AllHold p P × AllHold p Q) o.3 (c.args.p, all_hold c.args.p o.0.P h.in_p, all_hold c.args.p o.0.Q h.in_q)

pub returns-in-Drop-clause-when_open : goal.returns-in-Drop-clause-when_open
returns-in-Drop-clause-when_open c b bs ss H R =
    let l = limits_in (used c.args.w.now) in
    let e = chosen_drop (branch_of b) (sym (c.choose.ensures b bs ss H) ∙ c.in-Drop.is) in
    (record { branches = bs; systems = ss }, step_by l c.args.p b bs ss _ e ∙ drop_state l c.args.p b bs ss, grind arith steps 40000000, ready_dropped l c.args.p b bs ss R)

pub returns-in-List-clause-when_open : goal.returns-in-List-clause-when_open
returns-in-List-clause-when_open c b bs ss H R =
    let l = limits_in (used c.args.w.now) in
    let e = chosen_list (branch_of b) (sym (c.choose.ensures b bs ss H) ∙ c.in-List.is) in (
      record { branches = bs; systems = b ∷ ss },
      step_by l c.args.p b bs ss _ e.0 ∙ list_state l c.args.p b bs ss,
      grind arith steps 40000000,
      ready_listed l c.args.p b bs ss R (map_none b.P e.1),
    )

pub with_pivot-requires-clause-ready : goal.with_pivot-requires-clause-ready
with_pivot-requires-clause-ready c =
    let o = c.requires.ready in
    let R = o.4 in
    let g = chosen_pivot c.args.p _ _ o.0.P o.0.Q o.0.T R.sound.branches.0.in_p R.monic.0 R.nonzero.0 (sym (c.choose.ensures o.0 o.1 o.2 o.3) ∙ c.in-Pivot.is) in
    (o.0, o.1, o.2, o.3, R, g.1)

pub returns-in-Pivot-clause-when_open : goal.returns-in-Pivot-clause-when_open
returns-in-Pivot-clause-when_open c b bs ss H R =
    let a = c.args in
    let u = c.with_pivot in
    let most = used a.w.now in
    let g = chosen_pivot a.p _ _ b.P b.Q b.T R.sound.branches.0.in_p R.monic.0 R.nonzero.0 (sym (c.choose.ensures b bs ss H) ∙ c.in-Pivot.is) in
    subst
    (λ (S : Stepped). Prepares (limits_in most) a.p S u.result u.new.t u.new.i (view u.new.w) most bs ss)
    (sym (step_by (limits_in most) a.p b bs ss _ g.0)) (u.ensures.when_open b bs ss H R g.1)
