-- Sums of coefficients times weights of monomials, for any weights in a ring where p is zero. Values at a point and coefficients
-- are two choices of weights; each law is proved once, here.
use Rattle.std.specs.Prelude.{◌≡◌, Bool, T, eqb}
use Rattle.std.proofs.Math.Path.{refl, sym, ap, ap₂, fun_ext}
use Rattle.std.proofs.Common.{◌∙◌, eqb→eq}
use mathlib.Core.List.{List, [], ◌∷◌}
use Rattle.std.proofs.Math.Bool.{true, false}
use Prim.Native.Nat.{ℕ, ◌+◌, ◌-◌, ◌*◌, ◌%◌, ◌≤◌, Ordering}
use Rattle.residues.specs.Field.{CommRing, cast, pow}
use Rattle.residues.specs.laws.Ring.{cast_zero, ring_laws, nil_mul, nil_add, add_nil, add_left_comm, cast_sum, cast_product, cast_one, cast_minus_one, one_mul, mul_one, mul_nil, pow_add, mul_comm}
use Rattle.polynomials.specs.Poly.{Exponents, Poly, order, join, keep, insert, add_multiple, sum, difference, product}
use Rattle.polynomials.specs.Value.{weigh, monomial_value, value}
use Rattle.polynomials.specs.laws.Order.{order_eq}

module _ {ℓ} {K : Type ℓ} (𝓡 : CommRing K) where
  open 𝓡 use {add as ◌⊕◌, mul as ◌⊗◌, neg as ⊖◌, nil as 𝟘, one as 𝟙}

  infixl 60 ◌⊕◌
  infixl 70 ◌⊗◌
  infix 80 ⊖◌
  weigh_scale : (k : K) (w : Exponents → K) (f : Poly) → weigh 𝓡 (λ e. k ⊗ w e) f ≡ k ⊗ weigh 𝓡 w f
  unfolding weigh
  weigh_scale k w [] = sym (mul_nil 𝓡 k)
  weigh_scale k w (t ∷ f) = ap (λ z. cast 𝓡 t.coef ⊗ (k ⊗ w t.exps) ⊕ z) (weigh_scale k w f) ∙ law (cast 𝓡 t.coef) k (w t.exps) (weigh 𝓡 w f)
    where
      law : (c k a b : K) → c ⊗ (k ⊗ a) ⊕ k ⊗ b ≡ k ⊗ (c ⊗ a ⊕ b)
      law c k a b = simp ring_laws

  pub weigh_add : (w w' : Exponents → K) (f : Poly) → weigh 𝓡 (λ e. w e ⊕ w' e) f ≡ weigh 𝓡 w f ⊕ weigh 𝓡 w' f
  unfolding weigh
  weigh_add w w' [] = sym (add_nil 𝓡 𝟘)
  weigh_add w w' (t ∷ f) = ap (λ z. cast 𝓡 t.coef ⊗ (w t.exps ⊕ w' t.exps) ⊕ z) (weigh_add w w' f) ∙ law (cast 𝓡 t.coef) (w t.exps) (w' t.exps) (weigh 𝓡 w f) (weigh 𝓡 w' f)
    where
      law : (c a b x y : K) → c ⊗ (a ⊕ b) ⊕ (x ⊕ y) ≡ (c ⊗ a ⊕ x) ⊕ (c ⊗ b ⊕ y)
      law c a b x y = simp ring_laws

  pub monomial_nil : (point : List K) → monomial_value 𝓡 point [] ≡ 𝟙
  unfolding monomial_value
  monomial_nil [] = refl
  monomial_nil (x ∷ xs) = refl

  monomial_join : (point : List K) (a b : Exponents) → monomial_value 𝓡 point (join a b) ≡ monomial_value 𝓡 point a ⊗ monomial_value 𝓡 point b
  unfolding monomial_value join
  monomial_join [] a b = sym (mul_one 𝓡 𝟙)
  monomial_join (x ∷ xs) [] b = sym (one_mul 𝓡 (monomial_value 𝓡 (x ∷ xs) b))
  monomial_join (x ∷ xs) (m ∷ a) [] = sym (mul_one 𝓡 (pow 𝓡 x m ⊗ monomial_value 𝓡 xs a))
  monomial_join (x ∷ xs) (m ∷ a) (n ∷ b) = ap₂ ◌⊗◌ (pow_add 𝓡 x m n) (monomial_join xs a b) ∙ law (pow 𝓡 x m) (pow 𝓡 x n) (monomial_value 𝓡 xs a) (monomial_value 𝓡 xs b)
    where
      law : (s t a b : K) → s ⊗ t ⊗ (a ⊗ b) ≡ s ⊗ a ⊗ (t ⊗ b)
      law s t a b = simp ring_laws

  module _ (p : ℕ) (char : cast 𝓡 p ≡ 𝟘) where
    weigh_keep : (w : Exponents → K) (c : ℕ) (e : Exponents) (f : Poly) → weigh 𝓡 w (keep c e f) ≡ cast 𝓡 c ⊗ w e ⊕ weigh 𝓡 w f
    unfolding weigh keep
    weigh_keep w c e f = go (eqb c 0) (eqb→eq c 0)
      where
        go : (b : Bool) → (T b → c ≡ 0) → weigh 𝓡 w (elim b [ true ↦ f | false ↦ record { coef = c; exps = e } ∷ f ]) ≡ cast 𝓡 c ⊗ w e ⊕ weigh 𝓡 w f
        go true h = sym (nil_add 𝓡 (weigh 𝓡 w f)) ∙ ap (λ z. z ⊕ weigh 𝓡 w f) (sym (nil_mul 𝓡 (w e)) ∙ ap (λ z. z ⊗ w e) (sym (cast_zero 𝓡))) ∙ ap (λ z. cast 𝓡 z ⊗ w e ⊕ weigh 𝓡 w f) (sym (h tt))
        go false h = refl

    weigh_insert : (w : Exponents → K) (c : ℕ) (e : Exponents) (f : Poly) → weigh 𝓡 w (insert p c e f) ≡ cast 𝓡 c ⊗ w e ⊕ weigh 𝓡 w f
    unfolding weigh insert
    weigh_insert w c e [] = weigh_keep w c e []
    weigh_insert w c e (t ∷ f) = go (weigh_insert w c e f) (order e t.exps) (order_eq e t.exps)
      where
        law : (a b v x : K) → (a ⊕ b) ⊗ v ⊕ x ≡ a ⊗ v ⊕ (b ⊗ v ⊕ x)
        law a b v x = simp ring_laws

        go : weigh 𝓡 w (insert p c e f) ≡ cast 𝓡 c ⊗ w e ⊕ weigh 𝓡 w f →
            (o : Ordering) → (o ≡ Ordering.eq → e ≡ t.exps) →
            weigh 𝓡 w (elim o [ Ordering.lt ↦ t ∷ insert p c e f | Ordering.eq ↦ keep ((c + t.coef) % p) e f | Ordering.gt ↦ keep c e (t ∷ f) ])
            ≡ cast 𝓡 c ⊗ w e ⊕ (cast 𝓡 t.coef ⊗ w t.exps ⊕ weigh 𝓡 w f)
        go ih Ordering.lt h = ap (λ z. cast 𝓡 t.coef ⊗ w t.exps ⊕ z) ih ∙ add_left_comm 𝓡 (cast 𝓡 t.coef ⊗ w t.exps) (cast 𝓡 c ⊗ w e) (weigh 𝓡 w f)
        go ih Ordering.eq h =
            weigh_keep w ((c + t.coef) % p) e f ∙ ap (λ z. z ⊗ w e ⊕ weigh 𝓡 w f) (cast_sum 𝓡 p char c t.coef)
            ∙ law (cast 𝓡 c) (cast 𝓡 t.coef) (w e) (weigh 𝓡 w f) ∙ ap (λ z. cast 𝓡 c ⊗ w e ⊕ (cast 𝓡 t.coef ⊗ w z ⊕ weigh 𝓡 w f)) (h refl)
        go ih Ordering.gt h = weigh_keep w c e (t ∷ f)

    pub weigh_add_multiple : (w : Exponents → K) (c : ℕ) (e : Exponents) (g f : Poly) → weigh 𝓡 w (add_multiple p c e g f) ≡ cast 𝓡 c ⊗ weigh 𝓡 (λ m. w (join e m)) g ⊕ weigh 𝓡 w f
    unfolding weigh add_multiple
    weigh_add_multiple w c e [] f = sym (nil_add 𝓡 (weigh 𝓡 w f)) ∙ ap (λ z. z ⊕ weigh 𝓡 w f) (sym (mul_nil 𝓡 (cast 𝓡 c)))
    weigh_add_multiple w c e (t ∷ g) f =
        weigh_insert w (c * t.coef % p) (join e t.exps) (add_multiple p c e g f)
        ∙ ap₂ (λ y z. y ⊗ w (join e t.exps) ⊕ z) (cast_product 𝓡 p char c t.coef) (weigh_add_multiple w c e g f)
        ∙ law (cast 𝓡 c) (cast 𝓡 t.coef) (w (join e t.exps)) (weigh 𝓡 (λ m. w (join e m)) g) (weigh 𝓡 w f)
      where
        law : (c d v x y : K) → c ⊗ d ⊗ v ⊕ (c ⊗ x ⊕ y) ≡ c ⊗ (d ⊗ v ⊕ x) ⊕ y
        law c d v x y = simp ring_laws

    -- A product, for any weighting.
    pub weigh_product : (w : Exponents → K) (f g : Poly) → weigh 𝓡 w (product p f g) ≡ weigh 𝓡 (λ a. weigh 𝓡 (λ b. w (join a b)) g) f
    unfolding weigh product
    weigh_product w [] g = refl
    weigh_product w (t ∷ f) g = weigh_add_multiple w t.coef t.exps g (product p f g) ∙ ap (λ z. cast 𝓡 t.coef ⊗ weigh 𝓡 (λ b. w (join t.exps b)) g ⊕ z) (weigh_product w f g)

    pub weigh_sum : (w : Exponents → K) (f g : Poly) → weigh 𝓡 w (sum p f g) ≡ weigh 𝓡 w f ⊕ weigh 𝓡 w g
    unfolding sum join
    weigh_sum w f g = weigh_add_multiple w 1 [] f g ∙ ap (λ z. z ⊗ weigh 𝓡 w f ⊕ weigh 𝓡 w g) (cast_one 𝓡) ∙ ap (λ z. z ⊕ weigh 𝓡 w g) (one_mul 𝓡 (weigh 𝓡 w f))

    pub weigh_difference : 1 ≤ p → (w : Exponents → K) (f g : Poly) → weigh 𝓡 w (difference p f g) ≡ weigh 𝓡 w f ⊕ ⊖ weigh 𝓡 w g
    unfolding difference join
    weigh_difference h w f g = weigh_add_multiple w (p - 1) [] g f ∙ ap (λ z. z ⊗ weigh 𝓡 w g ⊕ weigh 𝓡 w f) (cast_minus_one 𝓡 p char h) ∙ law (weigh 𝓡 w f) (weigh 𝓡 w g)
      where
        law : (a b : K) → ⊖ 𝟙 ⊗ b ⊕ a ≡ a ⊕ ⊖ b
        law a b = simp ring_laws

    -- Values at a point.
    pub value_product : (f g : Poly) (x : List K) → value 𝓡 (product p f g) x ≡ value 𝓡 f x ⊗ value 𝓡 g x
    value_product f g x =
        weigh_product (monomial_value 𝓡 x) f g
        ∙ ap (λ w. weigh 𝓡 w f) (fun_ext (λ a. ap (λ w. weigh 𝓡 w g) (fun_ext (λ b. monomial_join x a b))
        ∙ weigh_scale (monomial_value 𝓡 x a) (monomial_value 𝓡 x) g ∙ mul_comm 𝓡 (monomial_value 𝓡 x a) (value 𝓡 g x)))
        ∙ weigh_scale (value 𝓡 g x) (monomial_value 𝓡 x) f ∙ mul_comm 𝓡 (value 𝓡 g x) (value 𝓡 f x)

  -- Sums change places.
  weigh_zero : (f : Poly) → weigh 𝓡 (λ a. 𝟘) f ≡ 𝟘
  unfolding weigh
  weigh_zero [] = refl
  weigh_zero (t ∷ f) = ap₂ ◌⊕◌ (mul_nil 𝓡 _) (weigh_zero f) ∙ add_nil 𝓡 𝟘

  pub weigh_swap : (w : Exponents → Exponents → K) (f g : Poly) → weigh 𝓡 (λ a. weigh 𝓡 (λ b. w a b) g) f ≡ weigh 𝓡 (λ b. weigh 𝓡 (λ a. w a b) f) g
  unfolding weigh
  weigh_swap w [] g = sym (weigh_zero g)
  weigh_swap w (t ∷ f) g =
      ap₂ ◌⊕◌ (sym (weigh_scale (cast 𝓡 t.coef) (w t.exps) g)) (weigh_swap w f g)
      ∙ sym (weigh_add (λ b. cast 𝓡 t.coef ⊗ w t.exps b) (λ b. weigh 𝓡 (λ a. w a b) f) g)
