-- The first i terms of `out` are those of f with the highest power taken out.
use Rattle.std.proofs.Common.{◌≡◌, ◌<◌, ◌^◌, take}
use Rattle.residues.specs.Each.{Each}
use Rattle.polynomials.specs.Division.{degree, coefficient}
use Rattle.polynomials.specs.Packed.{terms}
use Rattle.terms.proofs.initial.Given as goal

abbrev pub invariant-loop-i : goal.invariant-loop-i
invariant-loop-i l = record {
  is : terms (take l.i l.out) ≡ coefficient l.fn.k (degree l.fn.k (terms l.f)) (terms (take l.i l.f));
  in_words : Each (λ t. t.monomial < 2 ^ 64) l.f → Each (λ t. t.monomial < 2 ^ 64) (take l.i l.out);
}
