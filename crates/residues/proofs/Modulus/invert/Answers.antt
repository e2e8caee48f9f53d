-- p leaves a remainder other than 0 by x, since no number below p divides a prime p.
use Rattle.std.proofs.Common.{◌≢◌, ◌<◌, ◌%◌, sym, ◌∙◌, subst, mod-lt, arith}
use Rattle.residues.specs.Prime.{Prime}
use Rattle.residues.specs.Residue.{inverse}
use Rattle.residues.specs.laws.Inverse.{inverse_ok, inverse_lt, inverse_unique, inverse_step}
use Rattle.residues.proofs.Modulus.invert.Goals as goal

pub loop-x-preserved : goal.loop-x-preserved
loop-x-preserved c =
    let p = c.self.inside.p in
    let x = c.loop-x.x in
    let inv = c.loop-x.invariant in
    let P : Prime p = subst Prime (sym c.self.view_is) c.requires.0 in
    let some : p % x ≢ 0 = P.no_divisor x (omega arith) inv.1 in
    let less : p % x < x = mod-lt p inv.0 in
    (omega arith, omega arith, mod-lt _ (omega arith), inverse_step p _ x _ inv.0 inv.1 inv.3)

pub returns : goal.returns
returns c =
    let p = c.self.inside.p in
    let a = c.args.a in
    let inv = c.loop-x.invariant in
    let P : Prime p = subst Prime (sym c.self.view_is) c.requires.0 in
    rw (sym c.self.view_is) (inverse_unique p a c.loop-x.t (inverse p a) inv.2 (inverse_lt p a P) (inv.3 ∙ omega arith) (inverse_ok p a P (omega arith) (omega arith)))
