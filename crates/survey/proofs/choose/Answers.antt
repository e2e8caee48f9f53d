-- The rule by what the surveys of P and Q find.
use Rattle.std.proofs.Common.{arith}
use Rattle.survey.proofs.Choices.{drop_one, drop_zero, list_it, pivot_there}
use Rattle.survey.proofs.choose.Goals as goal

pub returns-then-has_one : goal.returns-then-has_one
returns-then-has_one c b bs ss H = grind (arith, drop_one c.args.w.now H (c.open_branch-b.ensures b bs ss H))

pub returns-then-has_zero : goal.returns-then-has_zero
returns-then-has_zero c b bs ss H = grind (arith, drop_zero c.args.w.now H (c.open_branch-b.ensures b bs ss H) c.skip.ensures)

pub returns-then-p-eq0 : goal.returns-then-p-eq0
returns-then-p-eq0 c b bs ss H = grind (arith, list_it c.args.w.now H (c.open_branch-b.ensures b bs ss H) c.skip.ensures)

pub returns : goal.returns
returns c b bs ss H = grind (arith, pivot_there c.args.w.now H (c.open_branch-b.ensures b bs ss H) c.skip.ensures)
