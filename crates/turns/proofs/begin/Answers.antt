-- The two records that are written lie before those beyond.
use Rattle.turns.proofs.TurnLaws.{begun_stays}
use Rattle.turns.proofs.begin.Goals as goal

pub returns-clause-beyond_stays : goal.returns-clause-beyond_stays
returns-clause-beyond_stays c = begun_stays c.args.w.now c.count_records-most.result
