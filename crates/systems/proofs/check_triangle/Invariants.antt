-- What is read from where the index leads, with the last leading variable, decides what is read of the whole chain.
use Rattle.std.proofs.Common.{◌≡◌, ℕ, ◌<◌, Some}
use Rattle.tables.specs.Words.{word, records}
use Rattle.tables.specs.Read.{read_triangle}
use Rattle.tables.specs.Solve.{checked}
use Rattle.tables.specs.laws.Chains.{Leads, left, triangle_chain}
use Rattle.systems.proofs.check_triangle.Given as goal

abbrev pub invariant-loop-next : goal.invariant-loop-next
invariant-loop-next l =
    let w = l.table.words.now in record {
      inside : (i : ℕ) → l.next ≡ Some i → i < records w;
      leads : Leads (triangle_chain w l.table.modulus l.table.variables) l.last l.next
          (checked (read_triangle w l.table.modulus l.table.variables (records w) 0 l.system (word w l.system 0)));
    }

abbrev pub decreases-loop-next : goal.decreases-loop-next
decreases-loop-next l = left l.table.words.now l.next
