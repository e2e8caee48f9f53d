-- The value of a polynomial at a point, in any commutative ring, and as document 01 has it: a sum of numbers modulo p.
use Rattle.std.specs.Prelude.{List, [], ◌∷◌, ℕ, ◌+◌, ◌*◌, ◌%◌, ◌^◌, ◌<◌, length, get_or}
use Rattle.residues.specs.Field.{CommRing, cast, pow}
use Rattle.polynomials.specs.Poly.{Exponents, Poly}

module _ {ℓ} {K : Type ℓ} (𝓡 : CommRing K) where
  open 𝓡 use {add as ◌⊕◌, mul as ◌⊗◌, nil as 𝟘, one as 𝟙}

  infixl 60 ◌⊕◌
  infixl 70 ◌⊗◌
  -- The sum of each coefficient times the weight of its monomial.
  unfoldable pub weigh : (Exponents → K) → Poly → K
  weigh w [] = 𝟘
  weigh w (t ∷ f) = cast 𝓡 t.coef ⊗ w t.exps ⊕ weigh w f

  -- The value of a monomial: each coordinate to its exponent.
  unfoldable pub monomial_value : List K → Exponents → K
  monomial_value [] e = 𝟙
  monomial_value (x ∷ xs) [] = 𝟙
  monomial_value (x ∷ xs) (n ∷ e) = pow 𝓡 x n ⊗ monomial_value xs e

  abbrev pub value : Poly → List K → K
  value f point = weigh (monomial_value point) f

-- "The sum, modulo p, of each term's coefficient times every coordinate to its exponent. Power 0 is 1, also of 0; no terms give 0."
unfoldable pub monomial_valueℕ : List ℕ → Exponents → ℕ
monomial_valueℕ [] e = 1
monomial_valueℕ (x ∷ xs) [] = 1
monomial_valueℕ (x ∷ xs) (n ∷ e) = x ^ n * monomial_valueℕ xs e

unfoldable pub valueℕ : Poly → List ℕ → ℕ
valueℕ [] x = 0
valueℕ (t ∷ f) x = t.coef * monomial_valueℕ x t.exps + valueℕ f x

unfoldable pub value_modulo : ℕ → Poly → List ℕ → ℕ
value_modulo p f point = valueℕ f point % p

-- "A point is n residues, v1's first."
abbrev pub Point : ℕ → List ℕ → Type 0
Point p xs = (i : ℕ) → i < length xs → get_or xs i 0 < p
