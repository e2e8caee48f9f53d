-- Each test decides one way that an index leads.
use Rattle.std.proofs.Common.{rules}
use Rattle.tables.specs.Words.{follow}
use Rattle.words.proofs.follow.Goals as goal

pub returns-then-j-eq0 : goal.returns-then-j-eq0
unfolding follow
returns-then-j-eq0 c = search rules

pub returns-then-j-table : goal.returns-then-j-table
unfolding follow
returns-then-j-table c = search rules

pub returns : goal.returns
unfolding follow
returns c = search rules
