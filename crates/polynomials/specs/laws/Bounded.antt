-- The bounded operations against the unbounded ones: without bounds they form the same, what they form is the same, and what is formed
-- within the standard bounds has at most 256 terms.
use Rattle.std.proofs.Math.Path.{◌≡◌, refl, ap, ap₂}
use Rattle.std.proofs.Common.{sym, ◌∙◌, arith, ltb-false, le-ltb}
use Rattle.std.specs.Prelude.{Bool, leb, length}
use Rattle.std.proofs.Math.Bool.{true, false}
use mathlib.Core.List.{[], ◌∷◌}
use Prim.Native.Nat.{ℕ, zero, suc, ◌≤◌}
use Rattle.polynomials.specs.Poly.{Exponents, Poly, add_multiple, difference, product}
use Rattle.polynomials.specs.Canonical.{Canonical}
use Rattle.polynomials.specs.Division.{degree, coefficient, factor, round, remainder}
use Rattle.polynomials.specs.Bounds.{
  Bound,
  at_most,
  unbounded,
  over,
  Bounds,
  standard,
  no_bounds,
  Bounded,
  within,
  degree_passed,
  terms_passed,
  and_then,
  some_over,
  degrees_over,
  tested,
  bounded_product,
  bounded_difference,
  bounded_round,
  bounded_remainder,
}
use Rattle.polynomials.specs.laws.Canonical.{canonical_difference, canonical_product}

-- A product with zero is zero.
product_nil : (p : ℕ) (f : Poly) → product p f [] ≡ []
unfolding product add_multiple
product_nil p [] = refl
product_nil p (t ∷ f) = product_nil p f

-- ── a bound as a test ──
pub over_at_most : (m n : ℕ) → over (at_most m) n ≡ false → n ≤ m
unfolding over
over_at_most = ltb-false

pub at_most_over : (m n : ℕ) → n ≤ m → over (at_most m) n ≡ false
unfolding over
at_most_over = le-ltb

over_zero : (b : Bound) → over b 0 ≡ false
unfolding over
over_zero (at_most m) = at_most_over m 0 (omega arith)
over_zero unbounded = refl

-- What was formed first.
pub formed_first : (x : Bounded) (k : Poly → Bounded) (f : Poly) → and_then x k ≡ within f → (g : Poly) × (x ≡ within g) × (k g ≡ within f)
formed_first (within g) k f e = (g, refl, e)
formed_first degree_passed k f e = absurd (let z : ◌≡◌ {A = ℕ} 0 1 = cc in omega arith)
formed_first terms_passed k f e = absurd (let z : ◌≡◌ {A = ℕ} 0 1 = cc in omega arith)

-- ── what is formed is what the unbounded operation gives, and it passes no bound on terms ──
module _ (b : Bounds) where
  pub record FormsAs (f h : Poly) : Type 0 where
    pub same : h ≡ f
    pub few : over b.of_terms (length h) ≡ false

  forms_as : (f g h : Poly) → f ≡ g → over b.of_terms (length f) ≡ false → within f ≡ within h → FormsAs g h
  forms_as f g h q o e = let s : h ≡ f = cc in record { same = s ∙ q; few = ap (λ g. over b.of_terms (length g)) s ∙ o }

  pub tested_formed : (f h : Poly) → tested b f ≡ within h → FormsAs f h
  unfolding tested
  tested_formed f h = go (over b.of_terms (length f)) refl
    where
      go : (o : Bool) → over b.of_terms (length f) ≡ o → (elim o as (λ o. Bounded) [ true ↦ terms_passed | false ↦ within f ]) ≡ within h → FormsAs f h
      go true q e = absurd (let z : ◌≡◌ {A = ℕ} 0 1 = cc in omega arith)
      go false q e = forms_as f f h refl q e

  module _ (p : ℕ) where
    pub product_formed : (f g h : Poly) → bounded_product b p f g ≡ within h → FormsAs (product p f g) h
    unfolding bounded_product product
    product_formed [] g h e = forms_as [] [] h refl (over_zero b.of_terms) e
    product_formed (t ∷ f) [] h e = forms_as [] _ h (sym (product_nil p (t ∷ f))) (over_zero b.of_terms) e
    product_formed (t ∷ f) (u ∷ g) h e = go (degrees_over b.of_degree (t ∷ f) (u ∷ g)) e
      where
        go : (o : Bool) → (elim o as (λ o. Bounded) [ true ↦ degree_passed | false ↦ tested b (product p (t ∷ f) (u ∷ g)) ]) ≡ within h → FormsAs (product p (t ∷ f) (u ∷ g)) h
        go true e = absurd (let z : ◌≡◌ {A = ℕ} 0 1 = cc in omega arith)
        go false e = tested_formed (product p (t ∷ f) (u ∷ g)) h e

    difference_formed : (f g h : Poly) → bounded_difference b p f g ≡ within h → FormsAs (difference p f g) h
    unfolding bounded_difference
    difference_formed f g h e = tested_formed (difference p f g) h e

    module _ (k d : ℕ) (G : Poly) where
      pub round_formed : (R h : Poly) → bounded_round b p k d G R ≡ within h → FormsAs (round p k d G R) h
      unfolding bounded_round round
      round_formed R h e =
          let x = formed_first (bounded_product b p (coefficient k d G) R) _ h e in
          let y = formed_first (bounded_product b p (factor k d R) G) _ h x.2 in
          let z = difference_formed x.0 y.0 h y.2 in
          record { same = z.same ∙ ap₂ (difference p) (product_formed _ R x.0 x.1).same (product_formed _ G y.0 y.1).same; few = z.few }

      pub remainder_formed : (n : ℕ) (R h : Poly) → bounded_remainder b p k d G n R ≡ within h →
          (h ≡ remainder p k d G n R) × (over b.of_terms (length R) ≡ false → over b.of_terms (length h) ≡ false)
      unfolding bounded_remainder remainder
      remainder_formed zero R h e = let s : h ≡ R = cc in (s, λ q. ap (λ g. over b.of_terms (length g)) s ∙ q)
      remainder_formed (suc n) R h e = go (λ S. remainder_formed n S h) (leb d (degree k R)) e
        where
          go : ((S : Poly) → bounded_remainder b p k d G n S ≡ within h → (h ≡ remainder p k d G n S) × (over b.of_terms (length S) ≡ false → over b.of_terms (length h) ≡ false)) →
              (o : Bool) → (elim o as (λ o. Bounded) [ true ↦ and_then (bounded_round b p k d G R) (bounded_remainder b p k d G n) | false ↦ within R ]) ≡ within h →
              (h ≡ (elim o [ true ↦ remainder p k d G n (round p k d G R) | false ↦ R ])) × (over b.of_terms (length R) ≡ false → over b.of_terms (length h) ≡ false)
          go ih true e =
              let x = formed_first (bounded_round b p k d G R) (bounded_remainder b p k d G n) h e in
              let y = round_formed R x.0 x.1 in
              let z = ih x.0 x.2 in
              (z.0 ∙ ap (remainder p k d G n) y.same, λ q. z.1 y.few)
          go ih false e = let s : h ≡ R = cc in (s, λ q. ap (λ g. over b.of_terms (length g)) s ∙ q)

-- ── what passes no bound is formed ──
module _ (b : Bounds) where
  tested_within : (f : Poly) → over b.of_terms (length f) ≡ false → tested b f ≡ within f
  unfolding tested
  tested_within f o = ap (λ (o : Bool). elim o as (λ o. Bounded) [ true ↦ terms_passed | false ↦ within f ]) o

  pub product_within : (p : ℕ) (f g : Poly) → degrees_over b.of_degree f g ≡ false → over b.of_terms (length (product p f g)) ≡ false → bounded_product b p f g ≡ within (product p f g)
  unfolding bounded_product product
  product_within p [] g d o = refl
  product_within p (t ∷ f) [] d o = ap within (sym (product_nil p (t ∷ f)))
  product_within p (t ∷ f) (u ∷ g) d o =
      ap (λ (o : Bool). elim o as (λ o. Bounded) [ true ↦ degree_passed | false ↦ tested b (product p (t ∷ f) (u ∷ g)) ]) d ∙ tested_within (product p (t ∷ f) (u ∷ g)) o

pub canonical_round : (p : ℕ) → 1 ≤ p → (k d : ℕ) (G R : Poly) → Canonical p (round p k d G R)
unfolding round
canonical_round p h k d G R = canonical_difference p _ (product p (factor k d R) G) h (canonical_product p (coefficient k d G) R h)

-- "At most 256 terms."
pub product_few : (p : ℕ) (f g h : Poly) → bounded_product standard p f g ≡ within h → length h ≤ 256
product_few p f g h e = over_at_most 256 (length h) (product_formed standard p f g h e).few

pub round_few : (p k d : ℕ) (G R h : Poly) → bounded_round standard p k d G R ≡ within h → length h ≤ 256
round_few p k d G R h e = over_at_most 256 (length h) (round_formed standard p k d G R h e).few

-- ── without bounds all is formed ──
none_over : (e : Exponents) → some_over unbounded e ≡ false
unfolding some_over over
none_over [] = refl
none_over (n ∷ e) = none_over e

tested_unbounded : (f : Poly) → tested no_bounds f ≡ within f
unfolding tested over
tested_unbounded f = refl

module _ (p : ℕ) where
  product_unbounded : (f g : Poly) → bounded_product no_bounds p f g ≡ within (product p f g)
  unfolding bounded_product product degrees_over
  product_unbounded [] g = refl
  product_unbounded (t ∷ f) [] = ap within (sym (product_nil p (t ∷ f)))
  product_unbounded (t ∷ f) (u ∷ g) = ap (λ (o : Bool). elim o as (λ o. Bounded) [ true ↦ degree_passed | false ↦ tested no_bounds (product p (t ∷ f) (u ∷ g)) ]) (none_over _) ∙ tested_unbounded _

  difference_unbounded : (f g : Poly) → bounded_difference no_bounds p f g ≡ within (difference p f g)
  unfolding bounded_difference
  difference_unbounded f g = tested_unbounded (difference p f g)

  module _ (k d : ℕ) (G : Poly) where
    round_unbounded : (R : Poly) → bounded_round no_bounds p k d G R ≡ within (round p k d G R)
    unfolding bounded_round round
    round_unbounded R =
        ap₂ (λ x y. and_then x (λ f. and_then y (λ g. bounded_difference no_bounds p f g))) (product_unbounded (coefficient k d G) R) (product_unbounded (factor k d R) G)
        ∙ difference_unbounded (product p (coefficient k d G) R) (product p (factor k d R) G)

    pub remainder_unbounded : (n : ℕ) (R : Poly) → bounded_remainder no_bounds p k d G n R ≡ within (remainder p k d G n R)
    unfolding bounded_remainder remainder
    remainder_unbounded zero R = refl
    remainder_unbounded (suc n) R =
        go (leb d (degree k R)) (ap (λ x. and_then x (bounded_remainder no_bounds p k d G n)) (round_unbounded R) ∙ remainder_unbounded n (round p k d G R))
      where
        go : (o : Bool) → and_then (bounded_round no_bounds p k d G R) (bounded_remainder no_bounds p k d G n) ≡ within (remainder p k d G n (round p k d G R)) →
            (elim o as (λ o. Bounded) [ true ↦ and_then (bounded_round no_bounds p k d G R) (bounded_remainder no_bounds p k d G n) | false ↦ within R ])
            ≡ within (elim o [ true ↦ remainder p k d G n (round p k d G R) | false ↦ R ])
        go true ih = ih
        go false ih = refl
