-- The member is named by the list that it stands in, loaded and removed.
use Rattle.std.proofs.Common.{List, subst, arith}
use Rattle.branches.specs.Area.{Stored, HeldIn, with_open}
use Rattle.members.specs.Members.{HasLeft}
use Rattle.members.specs.declared.Dividends.TheVariants.{InQ}
use Rattle.members.proofs.TakeLaws.{Next, next_in_p, next_in_q}
use Rattle.members.proofs.take.Goals.{Joined-dividends, in-InP, in-InQ}
use Rattle.members.proofs.take.Goals as goal

-- The member that is named is the next one.
next : (c : Joined-dividends) (b : Stored) (bs ss : List Stored) → HeldIn c.args.w.now (with_open b bs ss)
    → Next c.args.dividends c.args.left b c.match-dividends.member
next c b bs ss H =
    let has = c.requires.when_open b bs ss H in
    elim c.match-dividends.branch [
      | in-InP w ↦ next_in_p has w.in-InP.place w.in-InP.is w.member-is
      | in-InQ w ↦ next_in_q has w.in-InQ.field-0 w.count_q.result w.in-InQ.is (w.count_q.ensures b bs ss H) w.member-is
    ]

pub overflow_sub-member : goal.overflow_sub-member
overflow_sub-member c =
    let o = c.requires.opened in
    let has : HasLeft (InQ c.in-InQ.field-0) c.args.left o.0 = subst (λ d. HasLeft d c.args.left o.0) c.in-InQ.is (c.requires.when_open o.0 o.1 o.2 o.3) in
    omega (arith, c.count_q.ensures o.0 o.1 o.2 o.3, has.1)

pub load-n-requires-clause-when_open : goal.load-n-requires-clause-when_open
load-n-requires-clause-when_open c b bs ss H = (next (goal.at.load-n-requires-clause-when_open c).Joined-dividends b bs ss H).there

pub remove-requires-clause-when_open : goal.remove-requires-clause-when_open
remove-requires-clause-when_open c b bs ss H = (next (goal.at.remove-requires-clause-when_open c).Joined-dividends b bs ss H).there

pub returns-clause-when_open_2 : goal.returns-clause-when_open_2
returns-clause-when_open_2 c b bs ss H =
    let l = c.load-n.ensures b bs ss H in
    (next (goal.at.returns-clause-when_open_2 c).Joined-dividends b bs ss H).takes bs ss _ _ _ _ (l.0, l.1) (c.remove.ensures.open_becomes b bs ss H)

pub returns-clause-behind_stays : goal.returns-clause-behind_stays
returns-clause-behind_stays c = let o = c.requires.opened in (c.load-n.ensures o.0 o.1 o.2 o.3).2
