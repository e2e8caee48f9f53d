-- a + (p - b) is p more than the result where b is at most a, and the result where it is not.
use Rattle.std.proofs.Common.{◌≡◌, ◌+◌, ◌-◌, ◌%◌, sym, ◌∙◌, ap, mod-eq_of_lt, arith}
use Rattle.std.proofs.Math.Nat.{add-mod_right}
use Rattle.residues.specs.Residue.{difference}
use Rattle.residues.proofs.Modulus.subtract.Goals as goal

pub returns-then-b-a : goal.returns-then-b-a
unfolding difference
returns-then-b-a c =
    let a = c.args.a in
    let b = c.args.b in
    let p = c.args.self in
    let once : a + (p - b) ≡ a - b + p = omega arith in
    sym (ap (λ z. z % p) once ∙ add-mod_right (a - b) p ∙ mod-eq_of_lt (omega arith))

pub returns-else-b-a : goal.returns-else-b-a
unfolding difference
returns-else-b-a c = rw (sym c.self.view_is) (sym (mod-eq_of_lt (omega arith)))
