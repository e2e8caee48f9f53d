-- What is read from where the index leads decides what is read of the whole chain.
use Rattle.std.proofs.Common.{◌≡◌, ℕ, ◌<◌, Some}
use Rattle.tables.specs.Words.{records}
use Rattle.tables.specs.Read.{read_heads}
use Rattle.tables.specs.Solve.{checked}
use Rattle.tables.specs.laws.Chains.{Leads, left, heads_chain}
use Rattle.reading.proofs.check_heads.Given as goal

abbrev pub invariant-loop-next : goal.invariant-loop-next
invariant-loop-next l =
    let w = l.table.words.now in record {
      inside : (i : ℕ) → l.next ≡ Some i → i < records w;
      leads : Leads (heads_chain w l.table.modulus l.table.variables) tt l.next
          (checked (read_heads w l.table.modulus l.table.variables (records w) l.from l.first));
    }

abbrev pub decreases-loop-next : goal.decreases-loop-next
decreases-loop-next l = left l.table.words.now l.next
