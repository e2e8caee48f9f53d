-- Each turn scales one term more.
use Rattle.std.proofs.Common.{◌≡◌, ◌∙◌, ◌<◌, sym, ap, subst, length, get_or, slice_set, arith, rules}
use Rattle.std.proofs.lemmas.List.{get_or_default}
use Rattle.std.proofs.lemmas.List.Edits.{map_over_more}
use Rattle.residues.specs.Residue.{product}
use Rattle.residues.specs.laws.Inverse.{inverse_lt}
use Rattle.polynomials.specs.Packed.{terms}
use Rattle.polynomials.specs.declared.Term.{Term as Packed}
use Rattle.polynomials.specs.laws.Merge.{scaled}
use Rattle.polynomials.specs.laws.Product.{coefficient_below}
use Rattle.scaling.proofs.ScaledLaws.{scale, monic_none, each_of_none, more_in_words, all_in_words, leads, next_unscaled, all_scaled}
use Rattle.scaling.proofs.monic.Goals as goal

pub returns-in_default : goal.returns-in_default
returns-in_default c = record {
  is = monic_none c.args.p c.args.f.now (search rules);
  in_words = each_of_none _ c.args.f.now (search rules);
}

pub invert-c-requires : goal.invert-c-requires
invert-c-requires c =
    let q = c.requires in
    let l = leads c.args.p c.args.f.now c.in-Some.field-0.now q.prime q.canonical (search rules) in
    (q.prime, l.nonzero, l.residue)

pub scaled-requires : goal.scaled-requires
scaled-requires c =
    let p = c.args.p in
    let f = c.args.f.now in
    let q = c.requires in
    let l = c.loop-t in
    let none : Packed = record { coefficient = 0; monomial = 0 } in
    let inside : l.t-index < length f = omega arith in (
      subst (λ i. i < p) (sym c.invert-c.ensures) (inverse_lt p c.in-Some.field-0.now.coefficient q.prime),
      subst (λ (t : Packed). t.coefficient < p) (sym (next_unscaled p c.invert-c.result f l.f l.t-index l.invariant.0 none inside)) (coefficient_below f l.t-index none inside p q.canonical),
    )

pub loop-t-preserved : goal.loop-t-preserved
unfolding product
loop-t-preserved c =
    let p = c.args.p in
    let f = c.args.f.now in
    let l = c.loop-t in
    let none : Packed = record { coefficient = 0; monomial = 0 } in
    let t : Packed = get_or l.f l.t-index none in
    let i = c.invert-c.result in
    let e = c.scaled.ensures in
    let inside : l.t-index < length f = omega arith in
    let same : t ≡ get_or f l.t-index none = next_unscaled p i f l.f l.t-index l.invariant.0 none inside in
    let is : c.scaled.result ≡ scale p i t = λ k. record { coefficient = e.coefficient k; monomial = e.monomial.0 k } in
    let more = map_over_more (scale p i) f l.f l.t-index t inside l.invariant.0 (get_or_default l.f l.t-index none t (omega arith)) in (
      ap (slice_set l.f l.t-index) is ∙ more,
      more_in_words f l.t-index none inside (omega (arith, ap (λ (t : Packed). t.monomial) same, e.monomial.0, e.monomial.1)) l.invariant.1,
    )

pub returns : goal.returns
returns c =
    let p = c.args.p in
    let f = c.args.f.now in
    let q = c.requires in
    let l = c.loop-t in
    let led = leads p f c.in-Some.field-0.now q.prime q.canonical (search rules) in
    record {
      is = all_scaled p c.invert-c.result f l.f l.t-index l.invariant.0 (omega arith) ∙ ap (λ i. scaled p i (terms f)) c.invert-c.ensures ∙ led.scales;
      in_words = all_in_words p c.invert-c.result f l.f l.t-index l.invariant.0 (omega arith) l.invariant.1;
    }
