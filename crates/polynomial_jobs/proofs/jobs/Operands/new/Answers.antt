-- What the tests say of p, f and g.
use Rattle.std.proofs.Common.{sym, arith}
use Rattle.residues.specs.laws.Prime.{modulus_prime}
use Rattle.polynomials.specs.laws.Held.{holds_of_test}
use Rattle.polynomial_jobs.proofs.jobs.Operands.new.Goals as goal

pub new-p-requires-clause-positive : goal.new-p-requires-clause-positive
new-p-requires-clause-positive c = omega (arith, c.from-number.ensures, (modulus_prime c.args.p (sym c.if-is_prime.ensures)).0.two≤)

pub new-p-requires-clause-below : goal.new-p-requires-clause-below
new-p-requires-clause-below c = omega (arith, c.from-number.ensures, (modulus_prime c.args.p (sym c.if-is_prime.ensures)).1)

pub invariant_of-result : goal.invariant_of-result
invariant_of-result c =
    let prime = modulus_prime c.args.p (sym c.if-is_prime.ensures) in
    record {
      prime = rw (c.new-p.ensures, c.from-number.ensures) prime.0;
      f_holds = rw c.new-p.ensures (holds_of_test _ _ (sym c.if-is_polynomial.ensures));
      g_holds = rw c.new-p.ensures (holds_of_test _ _ (sym c.if-is_polynomial-2.ensures));
    }
