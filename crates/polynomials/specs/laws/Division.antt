-- The division: an identity in any ring that reads polynomials, and what it says of zeros at a point in any field that contains the prime field.
use Rattle.std.specs.Prelude.{◌≡◌, ◌↔◌, ◌≢◌, Bool, true, false, T, eqb, leb, get_or, set}
use Rattle.std.proofs.Math.Path.{refl, sym, ap}
use Rattle.std.proofs.Common.{◌∙◌, ap₂, eqb→eq}
use mathlib.Core.List.{List, [], ◌∷◌}
use Prim.Native.Nat.{ℕ, zero, suc, ◌≤◌, ◌<◌}
use Rattle.residues.specs.Prime.{Prime}
use Rattle.residues.specs.Residue.{inverse}
use Rattle.residues.specs.Field.{CommRing, Field, cast, pow}
use Rattle.residues.specs.laws.Inverse.{inverse_ok}
use Rattle.residues.specs.laws.Ring.{cast_one, cast_product, ring_laws, nil_mul, nil_add, add_nil, add_left_comm}
use Rattle.residues.specs.laws.Ring.{one_mul, mul_one, mul_nil, mul_comm, mul_left_comm, mul_zero, pow_nonzero, unit_nonzero}
use Rattle.polynomials.specs.Poly.{Exponents, Term, Poly, join, sum, difference, product, monic}
use Rattle.polynomials.specs.Division.{degree, coefficient, without, constant_one, power, factor, round, remainder, rounds, multiple}
use Rattle.polynomials.specs.Value.{weigh, monomial_value, value}
use Rattle.polynomials.specs.laws.Weigh.{monomial_nil, weigh_add_multiple, value_product, weigh_sum, weigh_difference}

-- A reading of polynomials in a ring that keeps the operations: the value at a point is one, the polynomial itself another.
pub record Reading {ℓ} {K : Type ℓ} (p : ℕ) (𝓡 : CommRing K) (v : Poly → K) : Type ℓ where
  pub of_nil : v [] ≡ 𝓡.nil
  pub of_one : v constant_one ≡ 𝓡.one
  pub of_sum : (f g : Poly) → v (sum p f g) ≡ 𝓡.add (v f) (v g)
  pub of_difference : (f g : Poly) → v (difference p f g) ≡ 𝓡.add (v f) (𝓡.neg (v g))
  pub of_product : (f g : Poly) → v (product p f g) ≡ 𝓡.mul (v f) (v g)

module _ {ℓ} {K : Type ℓ} (𝓡 : CommRing K) (p : ℕ) (v : Poly → K) (𝓥 : Reading p 𝓡 v) where
  open 𝓡 use {add as ◌⊕◌, mul as ◌⊗◌, neg as ⊖◌, nil as 𝟘, one as 𝟙}

  infixl 60 ◌⊕◌
  infixl 70 ◌⊗◌
  infix 80 ⊖◌
  pub of_power : (f : Poly) (n : ℕ) → v (power p f n) ≡ pow 𝓡 (v f) n
  unfolding power pow
  of_power f zero = 𝓥.of_one
  of_power f (suc n) = 𝓥.of_product f (power p f n) ∙ ap (λ z. v f ⊗ z) (of_power f n)

  -- a difference, without the minus
  of_difference_add : (f g : Poly) → v (difference p f g) ⊕ v g ≡ v f
  of_difference_add f g = ap (λ z. z ⊕ v g) (𝓥.of_difference f g) ∙ law (v f) (v g)
    where
      law : (a b : K) → a ⊕ ⊖ b ⊕ b ≡ a
      law a b = simp ring_laws

  module _ (k d : ℕ) (G : Poly) where
    of_round : (R : Poly) → v (round p k d G R) ⊕ v (factor k d R) ⊗ v G ≡ v (coefficient k d G) ⊗ v R
    unfolding round
    of_round R =
        ap (λ z. v (round p k d G R) ⊕ z) (sym (𝓥.of_product (factor k d R) G))
        ∙ of_difference_add (product p (coefficient k d G) R) (product p (factor k d R) G) ∙ 𝓥.of_product (coefficient k d G) R

    -- With s rounds, I^s R is a multiple of G plus the remainder.
    pub division : (n : ℕ) (R : Poly) → pow 𝓡 (v (coefficient k d G)) (rounds p k d G n R) ⊗ v R ≡ v (multiple p k d G n R) ⊗ v G ⊕ v (remainder p k d G n R)
    unfolding rounds multiple remainder pow
    division zero R = one_mul 𝓡 (v R) ∙ sym (nil_add 𝓡 (v R)) ∙ ap (λ z. z ⊕ v R) (sym (nil_mul 𝓡 (v G)) ∙ ap (λ z. z ⊗ v G) (sym 𝓥.of_nil))
    division (suc n) R = go (division n (round p k d G R)) (leb d (degree k R))
      where
        i : Poly
        i = coefficient k d G

        R' : Poly
        R' = round p k d G R

        f : Poly
        f = factor k d R

        s : ℕ
        s = rounds p k d G n R'

        law₁ : (a y r : K) → a ⊗ y ⊗ r ≡ y ⊗ (a ⊗ r)
        law₁ a y r = simp ring_laws

        law₂ : (y r f g : K) → y ⊗ (r ⊕ f ⊗ g) ≡ y ⊗ r ⊕ y ⊗ f ⊗ g
        law₂ y r f g = simp ring_laws

        law₃ : (q g m y f : K) → q ⊗ g ⊕ m ⊕ y ⊗ f ⊗ g ≡ (q ⊕ y ⊗ f) ⊗ g ⊕ m
        law₃ q g m y f = simp ring_laws

        go : pow 𝓡 (v i) s ⊗ v R' ≡ v (multiple p k d G n R') ⊗ v G ⊕ v (remainder p k d G n R') →
            (c : Bool) → pow 𝓡 (v i) (elim c [ true ↦ suc s | false ↦ 0 ]) ⊗ v R
            ≡ v (elim c [ true ↦ sum p (multiple p k d G n R') (product p (power p i s) f) | false ↦ [] ]) ⊗ v G
            ⊕ v (elim c [ true ↦ remainder p k d G n R' | false ↦ R ])
        go ih true =
            law₁ (v i) (pow 𝓡 (v i) s) (v R) ∙ ap (λ z. pow 𝓡 (v i) s ⊗ z) (sym (of_round R)) ∙ law₂ (pow 𝓡 (v i) s) (v R') (v f) (v G)
            ∙ ap (λ z. z ⊕ pow 𝓡 (v i) s ⊗ v f ⊗ v G) ih ∙ law₃ (v (multiple p k d G n R')) (v G) (v (remainder p k d G n R')) (pow 𝓡 (v i) s) (v f)
            ∙ ap (λ z. z ⊗ v G ⊕ v (remainder p k d G n R')) (sym (𝓥.of_sum _ _ ∙ ap (λ z. v (multiple p k d G n R') ⊕ z) (𝓥.of_product _ _ ∙ ap (λ z. z ⊗ v f) (of_power i s))))
        go ih false = one_mul 𝓡 (v R) ∙ sym (nil_add 𝓡 (v R)) ∙ ap (λ z. z ⊕ v R) (sym (nil_mul 𝓡 (v G)) ∙ ap (λ z. z ⊗ v G) (sym 𝓥.of_nil))

-- The value at a point is a reading.
pub reading_value {ℓ} : {K : Type ℓ} (𝓡 : CommRing K) (p : ℕ) → cast 𝓡 p ≡ 𝓡.nil → 1 ≤ p → (x : List K) → Reading p 𝓡 (λ f. value 𝓡 f x)
unfolding weigh constant_one
reading_value 𝓡 p char h x = record {
  of_nil = refl;
  of_one = add_nil 𝓡 _ ∙ ap₂ 𝓡.mul (cast_one 𝓡) (monomial_nil 𝓡 x) ∙ mul_one 𝓡 𝓡.one;
  of_sum = weigh_sum 𝓡 p char (monomial_value 𝓡 x);
  of_difference = weigh_difference 𝓡 p char h (monomial_value 𝓡 x);
  of_product = λ f g. value_product 𝓡 p char f g x;
}

-- ── zero sets ──
-- A power of one variable apart.
module _ {ℓ} {K : Type ℓ} (𝓡 : CommRing K) where
  open 𝓡 use {add as ◌⊕◌, mul as ◌⊗◌, nil as 𝟘, one as 𝟙}

  infixl 60 ◌⊕◌
  infixl 70 ◌⊗◌
  pow_one : (n : ℕ) → pow 𝓡 𝟙 n ≡ 𝟙
  unfolding pow
  pow_one zero = refl
  pow_one (suc n) = one_mul 𝓡 (pow 𝓡 𝟙 n) ∙ pow_one n

  monomial_set : (x : List K) (e : Exponents) (k : ℕ) → monomial_value 𝓡 x e ≡ pow 𝓡 (get_or x k 𝟙) (get_or e k 0) ⊗ monomial_value 𝓡 x (set e k 0)
  unfolding monomial_value pow
  monomial_set [] e k = sym (mul_one 𝓡 _ ∙ pow_one (get_or e k 0))
  monomial_set (x ∷ xs) [] k = sym (mul_one 𝓡 𝟙)
  monomial_set (x ∷ xs) (n ∷ e) zero = sym (ap (λ z. pow 𝓡 x n ⊗ z) (one_mul 𝓡 (monomial_value 𝓡 xs e)))
  monomial_set (x ∷ xs) (n ∷ e) (suc k) = ap (λ z. pow 𝓡 x n ⊗ z) (monomial_set xs e k) ∙ mul_left_comm 𝓡 (pow 𝓡 x n) (pow 𝓡 (get_or xs k 𝟙) (get_or e k 0)) (monomial_value 𝓡 xs (set e k 0))

  -- f is its initial times the power, plus the rest: at any power d.
  value_split : (k d : ℕ) (f : Poly) (x : List K) → value 𝓡 f x ≡ pow 𝓡 (get_or x k 𝟙) d ⊗ value 𝓡 (coefficient k d f) x ⊕ value 𝓡 (without k d f) x
  unfolding weigh coefficient without
  value_split k d [] x = sym (add_nil 𝓡 _ ∙ mul_nil 𝓡 _)
  value_split k d (t ∷ f) x = go (value_split k d f x) (eqb (get_or t.exps k 0) d) (eqb→eq (get_or t.exps k 0) d)
    where
      P : K
      P = pow 𝓡 (get_or x k 𝟙) d

      c : K
      c = cast 𝓡 t.coef

      law : (c p m a b : K) → c ⊗ (p ⊗ m) ⊕ (p ⊗ a ⊕ b) ≡ p ⊗ (c ⊗ m ⊕ a) ⊕ b
      law c p m a b = simp ring_laws

      go : value 𝓡 f x ≡ P ⊗ value 𝓡 (coefficient k d f) x ⊕ value 𝓡 (without k d f) x →
          (b : Bool) → (T b → get_or t.exps k 0 ≡ d) →
          c ⊗ monomial_value 𝓡 x t.exps ⊕ value 𝓡 f x
          ≡ P ⊗ value 𝓡 (elim b [ true ↦ record { coef = t.coef; exps = set t.exps k 0 } ∷ coefficient k d f | false ↦ coefficient k d f ]) x
          ⊕ value 𝓡 (elim b [ true ↦ without k d f | false ↦ t ∷ without k d f ]) x
      go ih true h =
          ap₂ (λ y z. c ⊗ y ⊕ z) (monomial_set x t.exps k ∙ ap (λ z. pow 𝓡 (get_or x k 𝟙) z ⊗ monomial_value 𝓡 x (set t.exps k 0)) (h tt)) ih
          ∙ law c P (monomial_value 𝓡 x (set t.exps k 0)) (value 𝓡 (coefficient k d f) x) (value 𝓡 (without k d f) x)
      go ih false h = ap (λ z. c ⊗ monomial_value 𝓡 x t.exps ⊕ z) ih ∙ add_left_comm 𝓡 (c ⊗ monomial_value 𝓡 x t.exps) (P ⊗ value 𝓡 (coefficient k d f) x) (value 𝓡 (without k d f) x)

-- In a field that contains the prime field.
module _ {ℓ} {K : Type ℓ} (F : Field K) (p : ℕ) (char : cast F.ring p ≡ F.ring.nil) (1≤p : 1 ≤ p) (x : List K) where
  open F.ring use {add as ◌⊕◌, mul as ◌⊗◌, nil as 𝟘, one as 𝟙}

  infixl 60 ◌⊕◌
  infixl 70 ◌⊗◌
  abbrev at : Poly → K
  at f = value F.ring f x

  -- Rule 3: where the initial vanishes, the pivot does if and only if its rest does.
  pub split_zero : (k d : ℕ) (f : Poly) → at (coefficient k d f) ≡ 𝟘 → at f ≡ at (without k d f)
  split_zero k d f e = value_split F.ring k d f x ∙ ap (λ z. pow F.ring (get_or x k 𝟙) d ⊗ z ⊕ at (without k d f)) e
      ∙ ap (λ z. z ⊕ at (without k d f)) (mul_nil F.ring _) ∙ nil_add F.ring _

  -- Rules 4 and 5: where the pivot vanishes and its initial does not, the remainder vanishes if and only if the dividend does.
  module _ (k d : ℕ) (G : Poly) (zero : at G ≡ 𝟘) (initial : at (coefficient k d G) ≢ 𝟘) (n : ℕ) (R : Poly) where
    remainder_is : pow F.ring (at (coefficient k d G)) (rounds p k d G n R) ⊗ at R ≡ at (remainder p k d G n R)
    remainder_is =
        division F.ring p at (reading_value F.ring p char 1≤p x) k d G n R
        ∙ ap (λ z. at (multiple p k d G n R) ⊗ z ⊕ at (remainder p k d G n R)) zero
        ∙ ap (λ z. z ⊕ at (remainder p k d G n R)) (mul_nil F.ring _) ∙ nil_add F.ring _

    pub remainder_zero : (at (remainder p k d G n R) ≡ 𝟘) ↔ (at R ≡ 𝟘)
    remainder_zero = (
      (λ e. mul_zero F _ (at R) (remainder_is ∙ e) (pow_nonzero F (at (coefficient k d G)) (rounds p k d G n R) initial)),
      (λ e. sym remainder_is ∙ ap (λ z. pow F.ring (at (coefficient k d G)) (rounds p k d G n R) ⊗ z) e ∙ mul_nil F.ring _),
    )

module _ {ℓ} {K : Type ℓ} (F : Field K) (p : ℕ) (P : Prime p) (char : cast F.ring p ≡ F.ring.nil) (x : List K) where
  open F.ring use {add as ◌⊕◌, mul as ◌⊗◌, nil as 𝟘, one as 𝟙}

  infixl 60 ◌⊕◌
  infixl 70 ◌⊗◌
  cast_inverse_nonzero : (c : ℕ) → 1 ≤ c → c < p → cast F.ring (inverse p c) ≢ 𝟘
  cast_inverse_nonzero c h l = unit_nonzero F (cast F.ring (inverse p c)) (cast F.ring c)
      (mul_comm F.ring _ _ ∙ sym (cast_product F.ring p char c (inverse p c)) ∙ ap (cast F.ring) (inverse_ok p c P h l) ∙ cast_one F.ring)

  value_monic : (t : Term) (f : Poly) → value F.ring (monic p (t ∷ f)) x ≡ cast F.ring (inverse p t.coef) ⊗ value F.ring (t ∷ f) x
  unfolding monic join weigh
  value_monic t f = weigh_add_multiple F.ring p char (monomial_value F.ring x) (inverse p t.coef) [] (t ∷ f) [] ∙ add_nil F.ring _

  pub monic_zero : (t : Term) (f : Poly) → 1 ≤ t.coef → t.coef < p → (value F.ring (monic p (t ∷ f)) x ≡ 𝟘) ↔ (value F.ring (t ∷ f) x ≡ 𝟘)
  monic_zero t f h l = (
    (λ e. mul_zero F _ _ (sym (value_monic t f) ∙ e) (cast_inverse_nonzero t.coef h l)),
    (λ e. value_monic t f ∙ ap (λ z. cast F.ring (inverse p t.coef) ⊗ z) e ∙ mul_nil F.ring _),
  )
