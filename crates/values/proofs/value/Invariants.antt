-- The value so far and that of the terms from the index on are the value, and these terms are canonical.
use Rattle.std.proofs.Common.{◌≡◌, ◌<◌, drop}
use Rattle.polynomials.specs.Packed.{terms}
use Rattle.polynomials.specs.Canonical.{Canonical}
use Rattle.polynomials.specs.Value.{value_modulo}
use Rattle.values.proofs.ValueLaws.{value_rest}
use Rattle.values.proofs.value.Given as goal

abbrev pub invariant-loop-term : goal.invariant-loop-term
invariant-loop-term l = record {
  residue : l.value < l.p;
  canonical : Canonical l.p (terms (drop l.term-index l.f));
  same : value_rest l.p l.f l.point l.term-index l.value ≡ value_modulo l.p (terms l.f) l.point;
}
