-- The polynomials from the record reached on decide. The measure is the count of records that the reader can still reach.
use Rattle.std.proofs.Common.{◌≡◌}
use Rattle.tables.specs.Words.{records}
use Rattle.tables.specs.laws.Linked.{left}
use Rattle.evaluation.proofs.ValueLaws.{TestsLeft}
use Rattle.evaluation.proofs.Point.all_pass.Given as goal

abbrev pub invariant-loop-r : goal.invariant-loop-r
invariant-loop-r g l = record {
  on_table : l.r.table ≡ l.self.table.words;
  still : TestsLeft (goal.F-post g l.test) l.self.table l.from l.first l.self.residues.now l.r.at;
}

abbrev pub decreases-loop-r : goal.decreases-loop-r
decreases-loop-r g l = left (records l.self.table.words.now) l.r.at
