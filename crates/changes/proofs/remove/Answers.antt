-- The member's head is known, and it is taken out there.
use Rattle.std.proofs.Common.{arith}
use Rattle.changes.proofs.ChangeLaws.{some_p, some_q, take_p, take_q}
use Rattle.changes.proofs.remove.Goals as goal

pub overflow_sub-b : goal.overflow_sub-b
overflow_sub-b c =
    let o = c.requires.opened in
    omega (arith, some_p o.3 (c.open_branch-b.ensures _ _ _ o.3) c.args.member (c.requires.when_open _ _ _ o.3) c.in-P.is)

pub overflow_sub-b-in-Q : goal.overflow_sub-b-in-Q
overflow_sub-b-in-Q c =
    let o = c.requires.opened in
    omega (arith, some_q o.3 (c.open_branch-b.ensures _ _ _ o.3) c.args.member (c.requires.when_open _ _ _ o.3) c.in-Q.is)

pub take_at-requires : goal.take_at-requires
take_at-requires c =
    let o = c.requires.opened in
    (_, _, _, take_p o.3 (c.open_branch-b.ensures _ _ _ o.3) c.args.member (c.requires.when_open _ _ _ o.3) (c.head_of-from.ensures _ _ _ o.3) c.in-P.is)

pub take_at-requires-in-Q : goal.take_at-requires-in-Q
take_at-requires-in-Q c =
    let o = c.requires.opened in
    (_, _, _, take_q o.3 (c.open_branch-b.ensures _ _ _ o.3) c.args.member (c.requires.when_open _ _ _ o.3) (c.head_of-from.ensures _ _ _ o.3) c.in-Q.is)

pub returns-in-P : goal.returns-in-P
returns-in-P c = record {
  open_becomes = λ b bs ss H. c.take_at.ensures.held _ _ _
      (take_p H (c.open_branch-b.ensures b bs ss H) c.args.member (c.requires.when_open b bs ss H) (c.head_of-from.ensures b bs ss H) c.in-P.is);
  beyond_stays = c.take_at.ensures.beyond_stays;
}

pub returns-in-Q : goal.returns-in-Q
returns-in-Q c = record {
  open_becomes = λ b bs ss H. c.take_at-in-Q.ensures.held _ _ _
      (take_q H (c.open_branch-b.ensures b bs ss H) c.args.member (c.requires.when_open b bs ss H) (c.head_of-from.ensures b bs ss H) c.in-Q.is);
  beyond_stays = c.take_at-in-Q.ensures.beyond_stays;
}
