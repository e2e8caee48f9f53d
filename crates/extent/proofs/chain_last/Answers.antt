use Rattle.std.proofs.Common.{sym, ◌∙◌, arith}
use Rattle.extent.proofs.ExtentLaws.{walking_end, walking_astray, walking_inside, walking_on}
use Rattle.extent.proofs.chain_last.Goals as goal

pub word-index-requires-in-Ok-Some : goal.word-index-requires-in-Ok-Some
word-index-requires-in-Ok-Some c = ((walking_inside c.args.list.now c.loop-k.invariant cc).1, omega arith)

pub loop-k-smaller : goal.loop-k-smaller
loop-k-smaller c = omega (arith, walking_inside c.args.list.now c.loop-k.invariant {j = c.in-Ok-Some.k} cc)

pub loop-k-preserved : goal.loop-k-preserved
loop-k-preserved c = rw c.word-index-in-Ok-Some.ensures (walking_on c.args.list.now c.loop-k.invariant cc)

pub returns-in_default-clause-value : goal.returns-in_default-clause-value
returns-in_default-clause-value c = walking_end c.args.list.now c.loop-k.invariant cc

pub returns-in_default-2-clause-value : goal.returns-in_default-2-clause-value
returns-in_default-2-clause-value c = walking_astray c.args.list.now c.loop-k.invariant (sym c.follow.ensures ∙ c.in_default.is)
