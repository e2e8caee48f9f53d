-- The terms written and the terms from index i on make the polynomial. The records that index i can still reach become fewer.
use Rattle.tables.specs.Words.{records}
use Rattle.tables.specs.laws.Linked.{left}
use Rattle.loading.proofs.LoadLaws.{LoadLeft}
use Rattle.loading.proofs.load_head.Given as goal

abbrev pub invariant-loop-i : goal.invariant-loop-i
invariant-loop-i l = LoadLeft l.table.words.now l.table.modulus l.table.variables l.head l.out l.k l.i

abbrev pub decreases-loop-i : goal.decreases-loop-i
decreases-loop-i l = left (records l.table.words.now) l.i
