-- The branch's own record holds the count.
use Rattle.branches.proofs.OpenLaws.{q_is}
use Rattle.members.proofs.count_q.Goals as goal

pub returns : goal.returns
returns c b bs ss H = q_is H (c.open_branch-b.ensures b bs ss H)
