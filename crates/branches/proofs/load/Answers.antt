-- `load` takes the member's terms from where its head is.
use Rattle.std.proofs.Common.{◌∙◌, arith}
use Rattle.branches.proofs.MemberLaws.{found_member}
use Rattle.branches.proofs.load.Goals as goal

pub load-requires-clause-at_bound : goal.load-requires-clause-at_bound
load-requires-clause-at_bound c =
    let o = c.requires.opened in
    let F = found_member o.3 c.args.member (c.requires.when_open o.0 o.1 o.2 o.3) (c.head_of-from.ensures o.0 o.1 o.2 o.3) in
    (omega (arith, F.inside), omega (arith, F.inside))

pub load-requires-clause-at_in_bounds : goal.load-requires-clause-at_in_bounds
load-requires-clause-at_in_bounds c =
    let o = c.requires.opened in
    let F = found_member o.3 c.args.member (c.requires.when_open o.0 o.1 o.2 o.3) (c.head_of-from.ensures o.0 o.1 o.2 o.3) in
    omega (arith, F.size, c.requires.in_bounds o.0 o.1 o.2 o.3)

pub returns : goal.returns
returns c b bs ss H =
    let F = found_member H c.args.member (c.requires.when_open b bs ss H) (c.head_of-from.ensures b bs ss H) in
    let l = c.load.ensures in (l.0 ∙ F.size, l.1 ∙ F.terms, l.2)
