-- The test of equality is right: polynomials that pass it are the same list of terms; and packed terms that are the same polynomial are the same.
use Rattle.std.specs.Prelude.{◌≡◌, refl, List, [], ◌∷◌, Bool, true, false, ◌&&◌, eqb}
use Rattle.std.proofs.Common.{ap, ap₂, eqb-true, eq-eqb}
use Rattle.std.proofs.Math.Bool.{and-eq-true_iff}
use Prim.Native.Nat.{◌^◌, ◌<◌, Ordering}
use Rattle.residues.specs.Each.{Each}
use Rattle.std.proofs.Math.Dec.{compare_is_eq}
use Rattle.polynomials.specs.Poly.{Term, Poly, order, equal}
use Rattle.polynomials.specs.Packed.{term, terms}
use Rattle.polynomials.specs.declared.Term.{Term as Packed}
use Rattle.polynomials.specs.laws.Order.{order_eq, order_refl}
use Rattle.polynomials.specs.laws.Packed.{bytes_inj}

eq_is : (o : Ordering) → compare_is_eq o ≡ true → o ≡ Ordering.eq
eq_is Ordering.lt h = cc
eq_is Ordering.eq h = refl
eq_is Ordering.gt h = cc

pub equal_refl : (f : Poly) → equal f f ≡ true
unfolding equal
equal_refl [] = refl
equal_refl (t ∷ f) = ap₂ ◌&&◌ (eq-eqb t.coef t.coef refl) (ap₂ ◌&&◌ (ap compare_is_eq (order_refl t.exps)) (equal_refl f))

pub equal_eq : (f g : Poly) → equal f g ≡ true → f ≡ g
unfolding equal
equal_eq [] [] h = refl
equal_eq [] (u ∷ g) h = cc
equal_eq (t ∷ f) [] h = cc
equal_eq (t ∷ f) (u ∷ g) h =
    let first = (and-eq-true_iff (eqb t.coef u.coef) (compare_is_eq (order t.exps u.exps) && equal f g)).0 h in
    let behind = (and-eq-true_iff (compare_is_eq (order t.exps u.exps)) (equal f g)).0 first.1 in
    let coefs : t.coef ≡ u.coef = eqb-true t.coef u.coef first.0 in
    let same : t.exps ≡ u.exps = order_eq t.exps u.exps (eq_is (order t.exps u.exps) behind.0) in
    ap₂ ◌∷◌ (λ i. record { coef = coefs i; exps = same i }) (equal_eq f g behind.1)

pub unequal : (f g : Poly) → (f ≡ g → ⊥) → equal f g ≡ false
unequal f g n = go (equal f g) refl
  where
    go : (b : Bool) → equal f g ≡ b → b ≡ false
    go true h = absurd (n (equal_eq f g h))
    go false h = refl

-- A packed term is known by the term that it is, and packed terms by their polynomial.
pub term_inj : (t u : Packed) → t.monomial < 2 ^ 64 → u.monomial < 2 ^ 64 → term t ≡ term u → t ≡ u
term_inj t u h k e =
    let c : t.coefficient ≡ u.coefficient = ap (λ (x : Term). x.coef) e in
    let m : t.monomial ≡ u.monomial = bytes_inj 8 t.monomial u.monomial h k (ap (λ (x : Term). x.exps) e) in
    λ i. record { coefficient = c i; monomial = m i }

pub terms_inj : (s t : List Packed) → Each (λ u. u.monomial < 2 ^ 64) s → Each (λ u. u.monomial < 2 ^ 64) t → terms s ≡ terms t → s ≡ t
unfolding terms
terms_inj [] [] fs ft e = refl
terms_inj [] (u ∷ t) fs ft e = cc
terms_inj (u ∷ s) [] fs ft e = cc
terms_inj (u ∷ s) (v ∷ t) fs ft e =
    let first : term u ≡ term v = cc in
    let behind : terms s ≡ terms t = cc in
    ap₂ ◌∷◌ (term_inj u v fs.0 ft.0 first) (terms_inj s t fs.1 ft.1 behind)
