-- The bits from 8 n on are the bytes from place n on.
use Rattle.std.proofs.Common.{◌∙◌, arith}
use borrow.Author.Tests.{le-ltb}
use Rattle.checking.proofs.CheckLaws.{above_all, above_shift}
use Rattle.checking.proofs.has_above.Goals as goal

pub returns-then-n-lt8 : goal.returns-then-n-lt8
returns-then-n-lt8 c = above_shift c.args.n c.args.m c.requires (omega arith)

pub returns-else-n-lt8 : goal.returns-else-n-lt8
returns-else-n-lt8 c = le-ltb c.args.n 8 c.if-n-lt8.false ∙ above_all c.args.n c.args.m (omega arith)
