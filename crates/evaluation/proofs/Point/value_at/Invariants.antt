-- v and the value of the terms from the record reached on make the value. The measure is the count of records that the reader can still reach.
use Rattle.std.proofs.Common.{◌≡◌}
use Rattle.tables.specs.Words.{records}
use Rattle.tables.specs.laws.Linked.{left}
use Rattle.evaluation.proofs.ValueLaws.{ValueLeft}
use Rattle.evaluation.proofs.Point.value_at.Given as goal

abbrev pub invariant-loop-r : goal.invariant-loop-r
invariant-loop-r l = record {
  on_table : l.r.table ≡ l.self.table.words;
  still : ValueLeft l.self.table l.head l.self.residues.now l.v l.r.at;
}

abbrev pub decreases-loop-r : goal.decreases-loop-r
decreases-loop-r l = left (records l.self.table.words.now) l.r.at
