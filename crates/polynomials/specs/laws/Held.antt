-- The test `is_held` is true exactly where packed terms are a canonical polynomial of at most 256 terms.
use Rattle.std.specs.Prelude.{◌≡◌, refl, List, [], ◌∷◌, Bool, true, false, ◌&&◌, leb, ltb, length}
use Rattle.std.proofs.Common.{ap, ap₂, ltb-true, leb-true, lt-ltb, le-leb}
use Rattle.std.proofs.Math.Bool.{and-eq-true_iff}
use Prim.Native.Nat.{ℕ, Ordering}
use Rattle.polynomials.specs.Poly.{Exponents, Poly, order}
use Rattle.polynomials.specs.Canonical.{Under, Canonical}
use Rattle.polynomials.specs.Packed.{terms}
use Rattle.polynomials.specs.declared.Term.{Term as Packed}
use Rattle.polynomials.specs.Working.{Holds, falls, is_canonical, is_held}
use Rattle.polynomials.specs.laws.Canonical.{under_first}

below_of_falls : (o : Ordering) → elim o [ Ordering.lt ↦ true | Ordering.eq ↦ false | Ordering.gt ↦ false ] ≡ true → o ≡ Ordering.lt
below_of_falls Ordering.lt h = refl
below_of_falls Ordering.eq h = cc
below_of_falls Ordering.gt h = cc

under_of_falls : (p : ℕ) (e : Exponents) (f : Poly) → falls e f ≡ true → Canonical p f → Under e f
unfolding falls
under_of_falls p e [] h n = tt
under_of_falls p e (t ∷ f) h n = under_first p e t f n (below_of_falls (order t.exps e) h)

canonical_of_test : (p : ℕ) (f : Poly) → is_canonical p f ≡ true → Canonical p f
unfolding is_canonical
canonical_of_test p [] h = tt
canonical_of_test p (t ∷ f) h =
    let h₁ = (and-eq-true_iff (leb 1 t.coef) (ltb t.coef p && (falls t.exps f && is_canonical p f))).0 h in
    let h₂ = (and-eq-true_iff (ltb t.coef p) (falls t.exps f && is_canonical p f)).0 h₁.1 in
    let h₃ = (and-eq-true_iff (falls t.exps f) (is_canonical p f)).0 h₂.1 in
    let n = canonical_of_test p f h₃.1 in
    (leb-true 1 t.coef h₁.0, ltb-true t.coef p h₂.0, under_of_falls p t.exps f h₃.0 n, n)

falls_of_under : (e : Exponents) (f : Poly) → Under e f → falls e f ≡ true
unfolding falls
falls_of_under e [] u = refl
falls_of_under e (t ∷ f) u = ap (λ o. elim o as (λ o. Bool) [ Ordering.lt ↦ true | Ordering.eq ↦ false | Ordering.gt ↦ false ]) u.0

test_of_canonical : (p : ℕ) (f : Poly) → Canonical p f → is_canonical p f ≡ true
unfolding is_canonical
test_of_canonical p [] n = refl
test_of_canonical p (t ∷ f) n =
    ap₂ ◌&&◌ (le-leb 1 t.coef n.0)
    (ap₂ ◌&&◌ (lt-ltb t.coef p n.1) (ap₂ ◌&&◌ (falls_of_under t.exps f n.2) (test_of_canonical p f n.3)))

pub holds_of_test : (p : ℕ) (s : List Packed) → is_held p s ≡ true → Holds p s
unfolding is_held
holds_of_test p s h =
    let h₁ = (and-eq-true_iff (leb (length s) 256) (is_canonical p (terms s))).0 h in
    record { few = leb-true (length s) 256 h₁.0; canonical = canonical_of_test p (terms s) h₁.1 }

pub test_of_holds : (p : ℕ) (s : List Packed) → Holds p s → is_held p s ≡ true
unfolding is_held
test_of_holds p s h = ap₂ ◌&&◌ (le-leb (length s) 256 h.few) (test_of_canonical p (terms s) h.canonical)
