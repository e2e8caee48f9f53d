use Rattle.std.proofs.Common.{◌≡◌, refl, subst, arith}
use Rattle.polynomials.specs.laws.Highest.{Behind, behind_next, behind_end}
use Rattle.monomials.proofs.highest.Goals as goal

pub loop-left-init : goal.loop-left-init
loop-left-init c = record { more = 8; places = refl; small = omega arith; sum = omega arith }

pub overflow_add-k : goal.overflow_add-k
overflow_add-k c = omega (arith, c.loop-left.invariant.places)

pub loop-left-preserved : goal.loop-left-preserved
loop-left-preserved c = behind_next _ _ _ (omega arith) c.loop-left.invariant

pub returns : goal.returns
returns c =
    let z : c.loop-left.left ≡ 0 = omega arith in
    behind_end c.args.m c.loop-left.k (omega arith) (subst (λ l. Behind c.args.m l c.loop-left.k) z c.loop-left.invariant)
