use Rattle.std.proofs.Common.{arith, eqb-true, eq-eqb, subst}
use Rattle.std.specs.Int.{IsGcd}
use Rattle.std.proofs.lemmas.Nat.Gcd.{IsGcd-from_zero, IsGcd-from_mod, same_from_IsGcd}
use Rattle.primes.proofs.coprime.Goals as goal

pub loop-y-preserved : goal.loop-y-preserved
loop-y-preserved c = λ g h. c.loop-y.invariant g (IsGcd-from_mod _ _ g h)

pub returns : goal.returns
returns c =
    let a = c.args.a in
    let b = c.args.b in
    let x = c.loop-y.x in
    let last : IsGcd a b x = c.loop-y.invariant x (IsGcd-from_zero x _ (omega arith)) in
    (λ t. subst (IsGcd a b) (eqb-true x 1 t) last, λ h. eq-eqb x 1 (same_from_IsGcd a b x 1 last h))
