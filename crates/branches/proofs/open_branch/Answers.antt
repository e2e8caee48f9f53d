-- The control record says where the branch's own record is, and this one the rest.
use Rattle.std.proofs.Common.{get_or, [], ℕ}
use Rattle.records.proofs.Rows.{word_0, word_1, word_2}
use Rattle.branches.proofs.OpenLaws.{opened_is}
use Rattle.branches.proofs.open_branch.Goals as goal

pub returns : goal.returns
returns c b bs ss H =
    let w = c.args.w.now in
    let at : ℕ = get_or (get_or w 0 []) 0 0 in opened_is H (word_0 w 0) (word_0 w at) (word_1 w at) (word_2 w at)
