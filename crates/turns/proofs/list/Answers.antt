-- The branch is moved, and two records are written, before those beyond.
use Rattle.std.proofs.Common.{refl}
use Rattle.turns.proofs.TurnLaws.{listed_stays}
use Rattle.turns.proofs.list.Goals as goal

pub returns-clause-beyond_stays : goal.returns-clause-beyond_stays
returns-clause-beyond_stays c = listed_stays c.args.w.now c.requires c.copy_within.new.self _ refl c.copy_within.ensures.after
