-- What is read from where the index leads, with m terms behind, decides what is read of the whole chain.
use Rattle.std.proofs.Common.{◌≡◌, ℕ, ◌<◌, Some}
use Rattle.tables.specs.Words.{word, records}
use Rattle.tables.specs.Read.{first, read_terms}
use Rattle.tables.specs.Solve.{checked}
use Rattle.tables.specs.Walk.{before}
use Rattle.tables.specs.laws.Chains.{Leads, left, terms_chain}
use Rattle.checking.proofs.check_terms.Given as goal

abbrev pub invariant-loop-next : goal.invariant-loop-next
invariant-loop-next l =
    let w = l.table.words.now in record {
      inside : (i : ℕ) → l.next ≡ Some i → i < records w;
      leads : Leads (terms_chain w l.table.modulus l.table.variables) (l.m, before l.last) l.next
          (checked (read_terms w l.table.modulus l.table.variables (records w) 0 first l.head (word w l.head 0)));
    }

abbrev pub decreases-loop-next : goal.decreases-loop-next
decreases-loop-next l = left l.table.words.now l.next
