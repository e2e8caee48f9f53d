-- The member's head counts its terms.
use Rattle.std.proofs.Common.{◌∙◌, arith}
use Rattle.records.proofs.Rows.{word_0}
use Rattle.branches.proofs.MemberLaws.{found_member}
use Rattle.branches.proofs.count_terms.Goals as goal

pub offset_bounds-w-head_of : goal.offset_bounds-w-head_of
offset_bounds-w-head_of c =
    let o = c.requires.opened in
    let F = found_member o.3 c.args.member (c.requires.when_open o.0 o.1 o.2 o.3) (c.head_of.ensures o.0 o.1 o.2 o.3) in omega (arith, F.inside)

pub bounds-w-head_of : goal.bounds-w-head_of
bounds-w-head_of c =
    let o = c.requires.opened in
    let F = found_member o.3 c.args.member (c.requires.when_open o.0 o.1 o.2 o.3) (c.head_of.ensures o.0 o.1 o.2 o.3) in omega (arith, F.inside)

pub returns : goal.returns
returns c b bs ss H =
    let F = found_member H c.args.member (c.requires.when_open b bs ss H) (c.head_of.ensures b bs ss H) in word_0 c.args.w.now c.head_of.result ∙ F.size
