-- One record is written, before those beyond.
use Rattle.std.proofs.Common.{arith}
use Rattle.turns.proofs.TurnLaws.{set_stays}
use Rattle.turns.proofs.drop.Goals as goal

pub returns-clause-beyond_stays : goal.returns-clause-beyond_stays
returns-clause-beyond_stays c = set_stays c.args.w.now 0 _ _ _ _ (omega arith)
