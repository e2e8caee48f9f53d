-- v times what the coordinates from the index on give with the bytes that are left is the value; these are at most 8 less the index.
use Rattle.std.proofs.Common.{◌≡◌, ◌-◌, ◌^◌, ◌<◌}
use Rattle.values.proofs.ValueLaws.{term_rest}
use Rattle.values.proofs.term_value.Given as goal

abbrev pub invariant-loop-x : goal.invariant-loop-x
invariant-loop-x l = record {
  residue : l.value < l.p;
  left : l.exponents < 256 ^ (8 - l.x-index);
  same : term_rest l.p l.point l.x-index (8 - l.x-index) l.exponents l.value ≡ term_rest l.p l.point 0 8 l.fn.term.monomial l.fn.term.coefficient;
}
