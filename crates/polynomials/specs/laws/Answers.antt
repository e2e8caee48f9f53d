-- What a call that forms a polynomial in the first words of a slice answered: the polynomial that stands there, or the bound that is passed;
-- and what follows it.
use Rattle.std.specs.Prelude.{◌≡◌, refl, List, ℕ, ◌≤◌, length, take, Result, Ok, Err}
use Rattle.std.proofs.Common.{sym, ◌∙◌, ap, subst, arith, length-take-le}
use Rattle.polynomials.specs.Poly.{Poly}
use Rattle.polynomials.specs.Canonical.{Canonical}
use Rattle.polynomials.specs.Packed.{terms}
use Rattle.polynomials.specs.Bounds.{standard, Bounded, within, degree_passed, terms_passed, and_then, bounded_product, bounded_round}
use Rattle.polynomials.specs.Working.{Holds, Written, Forms}
use Rattle.polynomials.specs.declared.Term.{Term as Packed}
use Rattle.polynomials.specs.declared.Passed.{Passed}
use Rattle.polynomials.specs.declared.Passed.TheVariants.{Degree, Terms}
use Rattle.polynomials.specs.laws.Terms.{length_terms}
use Rattle.polynomials.specs.laws.Canonical.{canonical_product}
use Rattle.polynomials.specs.laws.Bounded.{product_formed, product_few, canonical_round, round_formed, round_few}

pub written_holds : (p : ℕ) (f : Poly) (n : ℕ) (s : List Packed) → Written f n s → n ≤ 256 → Canonical p f → Holds p (take n s)
written_holds p f n s W few c = record {
  few = omega (arith, length-take-le n s W.within);
  canonical = subst (Canonical p) (sym W.holds) c;
}

-- How many they are.
pub written_count : (f : Poly) (n : ℕ) (s : List Packed) → Written f n s → n ≡ length f
written_count f n s W = sym (length-take-le n s W.within) ∙ sym (length_terms (take n s)) ∙ ap length W.holds

formed_terms : (B : Bounded) (n : ℕ) (r : Result ℕ Passed) (s : List Packed) → r ≡ Ok n → Forms B r s → (f : Poly) × (B ≡ within f) × Written f n s
formed_terms (within f) n r s q F = let e : length f ≡ n = cc in (f, refl, subst (λ k. Written f k s) e F.1)
formed_terms degree_passed n r s q F = cc
formed_terms terms_passed n r s q F = cc

-- The bound that an operation passes.
abbrev pub passes : Passed → Bounded
passes Degree = degree_passed
passes Terms = terms_passed

-- The bound that a call answers is passed.
pub formed_passed : (B : Bounded) (e : Passed) (r : Result ℕ Passed) (s : List Packed) → r ≡ Err e → Forms B r s → B ≡ passes e
formed_passed (within f) e r s q F = cc
formed_passed degree_passed Degree r s q F = refl
formed_passed degree_passed Terms r s q F = cc
formed_passed terms_passed Degree r s q F = cc
formed_passed terms_passed Terms r s q F = refl

-- The first n terms of s are the polynomial that was to be formed.
pub record Answered (p : ℕ) (B : Bounded) (n : ℕ) (s : List Packed) : Type 0 where
  pub is : B ≡ within (terms (take n s))
  pub inside : n ≤ length s
  pub holds : Holds p (take n s)

answered : (p : ℕ) (B : Bounded) (n : ℕ) (r : Result ℕ Passed) (s : List Packed) → ((f : Poly) → B ≡ within f → (length f ≤ 256) × Canonical p f) → r ≡ Ok n → Forms B r s → Answered p B n s
answered p B n r s known q F =
    let w = formed_terms B n r s q F in
    let k = known w.0 w.1 in
    record { is = w.1 ∙ ap within (sym w.2.holds); inside = w.2.within; holds = written_holds p w.0 n s w.2 (omega (arith, k.0, written_count w.0 n s w.2)) k.1 }

module _ (p : ℕ) (h : 1 ≤ p) (n : ℕ) (r : Result ℕ Passed) (s : List Packed) (q : r ≡ Ok n) where
  pub product_answered : (f g : Poly) → Forms (bounded_product standard p f g) r s → Answered p (bounded_product standard p f g) n s
  product_answered f g =
      answered p (bounded_product standard p f g) n r s
      (λ x e. (product_few p f g x e, subst (Canonical p) (sym (product_formed standard p f g x e).same) (canonical_product p f g h))) q

  pub round_answered : (k d : ℕ) (G R : Poly) → Forms (bounded_round standard p k d G R) r s → Answered p (bounded_round standard p k d G R) n s
  round_answered k d G R =
      answered p (bounded_round standard p k d G R) n r s
      (λ x e. (round_few p k d G R x e, subst (Canonical p) (sym (round_formed standard p k d G R x e).same) (canonical_round p h k d G R))) q

-- What follows.
module _ (B : Bounded) (k : Poly → Bounded) (s : List Packed) where
  pub then_formed : (p n : ℕ) (y : List Packed) (r : Result ℕ Passed) → Answered p B n y → Forms (k (terms (take n y))) r s → Forms (and_then B k) r s
  then_formed p n y r A F = subst (λ B. Forms (and_then B k) r s) (sym A.is) F

  pub then_passed : (e : Passed) (r : Result ℕ Passed) (y : List Packed) → r ≡ Err e → Forms B r y → Forms (and_then B k) (Err e) s
  then_passed Degree r y q F = subst (λ B. Forms (and_then B k) (Err Degree) s) (sym (formed_passed B Degree r y q F)) refl
  then_passed Terms r y q F = subst (λ B. Forms (and_then B k) (Err Terms) s) (sym (formed_passed B Terms r y q F)) refl
