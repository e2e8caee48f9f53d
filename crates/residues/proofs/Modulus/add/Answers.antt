-- The sum is below twice p, so that one subtraction reduces it.
use Rattle.std.proofs.Common.{sym, ◌∙◌, mod-eq_of_lt, arith}
use Rattle.std.proofs.Math.Nat.{mod-eq-sub-mod}
use Rattle.residues.specs.Residue.{sum}
use Rattle.residues.proofs.Modulus.add.Goals as goal

pub returns-then-s-self : goal.returns-then-s-self
unfolding sum
returns-then-s-self c = sym (mod-eq_of_lt (omega arith))

pub returns-else-s-self : goal.returns-else-s-self
unfolding sum
returns-else-s-self c = rw (sym c.self.view_is) (sym (mod-eq-sub-mod (omega arith) ∙ mod-eq_of_lt (omega arith)))
