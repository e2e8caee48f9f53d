-- What `other_from` finds in the records of P.
use Rattle.std.proofs.Common.{arith}
use Rattle.survey.proofs.Choices.{other_of}
use Rattle.survey.proofs.find_other.Goals as goal

pub returns : goal.returns
returns c b bs ss H = grind (arith, other_of c.args.w.now H (c.open_branch-b.ensures b bs ss H))
