-- The work area holds the branch with the polynomials before index i put. The records beyond stay. Those that index i can still reach become fewer.
use Rattle.std.specs.Prelude.{◌≡◌, List}
use Rattle.records.specs.Records.{view}
use Rattle.polynomials.specs.Poly.{Poly}
use Rattle.tables.specs.Words.{records}
use Rattle.tables.specs.Read.{good, read_heads}
use Rattle.tables.specs.laws.Linked.{left}
use Rattle.rules.specs.Branch.{Branch}
use Rattle.branches.specs.Area.{used, beyond}
use Rattle.loading.specs.Started.{Alone}
use Rattle.loading.proofs.FillLaws.{PutLeft}
use Rattle.loading.proofs.put_heads.Given as goal

abbrev pub invariant-loop-i : goal.invariant-loop-i
invariant-loop-i l = record {
  puts :
      (fs : List Poly) (c : Branch) → read_heads l.table.words.now l.table.modulus l.table.variables (records l.table.words.now) 0 l.first ≡ good fs
      → Alone l.table.modulus (used l.fn.work) c (view l.fn.work)
      → PutLeft l.table.words.now l.table.modulus l.table.variables l.target (used l.fn.work) fs c l.i (view l.work);
  stays : beyond l.work ≡ beyond l.fn.work;
}

abbrev pub decreases-loop-i : goal.decreases-loop-i
decreases-loop-i l = left (records l.table.words.now) l.i
