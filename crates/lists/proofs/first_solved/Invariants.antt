-- The systems from the record reached on, with `place` for the first of them, decide the place of the first solved. The measure is the count of
-- records that the reader can still reach.
use Rattle.std.proofs.Common.{◌≡◌}
use Rattle.tables.specs.Words.{records}
use Rattle.tables.specs.laws.Linked.{left}
use Rattle.lists.proofs.ListLaws.{Placed}
use Rattle.lists.proofs.first_solved.Given as goal

abbrev pub invariant-loop-r : goal.invariant-loop-r
invariant-loop-r l = record {
  on_table : l.r.table ≡ l.point.table.words;
  still : Placed l.point.table l.point.residues.now l.r.at l.place;
}

abbrev pub decreases-loop-r : goal.decreases-loop-r
decreases-loop-r l = left (records l.point.table.words.now) l.r.at
