-- The count and what is read from where the index leads decide the whole count.
use Rattle.std.proofs.Common.{◌≡◌, ℕ, ◌<◌, Some}
use Rattle.tables.specs.Words.{word, records}
use Rattle.tables.specs.Read.{read_systems}
use Rattle.tables.specs.laws.Chains.{left}
use Rattle.systems.specs.Count.{counted}
use Rattle.systems.proofs.SystemLaws.{CountLeads}
use Rattle.systems.proofs.check_systems.Given as goal

abbrev pub invariant-loop-next : goal.invariant-loop-next
invariant-loop-next l =
    let w = l.table.words.now in record {
      inside : (i : ℕ) → l.next ≡ Some i → (l.count < i) × (i < records w);
      leads : CountLeads w l.table.modulus l.table.variables l.next l.count (counted (read_systems w l.table.modulus l.table.variables (records w) 0 (word w 0 2)));
    }

abbrev pub decreases-loop-next : goal.decreases-loop-next
decreases-loop-next l = left l.table.words.now l.next
