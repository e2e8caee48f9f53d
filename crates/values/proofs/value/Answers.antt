use Rattle.std.proofs.Common.{◌≡◌, ◌+◌, ◌*◌, ◌%◌, ◌<◌, length, get_or, sym, ◌∙◌, ap, arith, rules}
use Rattle.std.proofs.Math.Nat.{mod-lt}
use Rattle.residues.specs.Residue.{sum}
use Rattle.polynomials.specs.Packed.{bytes}
use Rattle.polynomials.specs.declared.Term.{Term as Packed}
use Rattle.polynomials.specs.Value.{monomial_valueℕ}
use Rattle.values.proofs.ValueLaws.{value_rest, value_rest_start, value_rest_next, value_rest_end, canonical_at}
use Rattle.values.proofs.value.Goals as goal

pub loop-term-init : goal.loop-term-init
loop-term-init c = record {
  residue = omega arith;
  canonical = c.requires.canonical;
  same = value_rest_start c.args.p c.args.f.now c.args.point.now;
}

pub term_value-requires-clause-le_p : goal.term_value-requires-clause-le_p
term_value-requires-clause-le_p c =
    let l = c.loop-term in
    let none : Packed = record { coefficient = 0; monomial = 0 } in
    let residue : (get_or c.args.f.now l.term-index none).coefficient < c.args.p = (canonical_at c.args.p c.args.f.now l.term-index none (omega arith) l.invariant.canonical).0 in
    (omega arith, search rules)

pub loop-term-preserved : goal.loop-term-preserved
unfolding sum
loop-term-preserved c =
    let p = c.args.p in
    let f = c.args.f.now in
    let xs = c.args.point.now in
    let l = c.loop-term in
    let i = l.term-index in
    let t : Packed = record { coefficient = 0; monomial = 0 } in
    let inside : i < length f = omega arith in
    let r : c.add-value.result ≡ (l.value + (get_or f i t).coefficient * monomial_valueℕ xs (bytes 8 (get_or f i t).monomial) % p) % p = c.add-value.ensures ∙ ap (λ z. (l.value + z) % p) c.term_value.ensures in
    record {
      residue = rw r (mod-lt _ (omega arith));
      canonical = (canonical_at p f i t inside l.invariant.canonical).1;
      same = ap (value_rest p f xs (i + 1)) r ∙ sym (value_rest_next p f i t inside xs l.value) ∙ l.invariant.same;
    }

pub returns : goal.returns
returns c =
    let l = c.loop-term in
    let a = c.args in
    sym (value_rest_end a.p a.f.now a.point.now l.term-index l.value l.invariant.residue (search rules)) ∙ l.invariant.same
