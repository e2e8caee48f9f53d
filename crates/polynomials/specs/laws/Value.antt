-- Document 01's value, a sum of numbers modulo p, is the value in the ring of residues.
use Rattle.std.specs.Prelude.{◌≡◌, ◌↔◌}
use Rattle.std.proofs.Math.Path.{refl, ap, ap₂}
use Rattle.std.proofs.Common.{sym, ◌∙◌}
use mathlib.Core.List.{List, [], ◌∷◌, map}
use Prim.Native.Nat.{ℕ, zero, suc, ◌*◌, ◌%◌, ◌^◌, ◌≤◌, Fin}
use Rattle.std.proofs.Math.Nat.{pow-zero, pow-succ'}
use Rattle.residues.specs.Prime.{Prime}
use Rattle.residues.specs.Field.{CommRing, cast, pow}
use Rattle.residues.specs.laws.Ring.{cast_add, cast_mul, cast_one}
use Rattle.residues.specs.laws.Residues.{Residues, PrimeField, cast_residue, nil_is, one≤}
use Rattle.polynomials.specs.Poly.{Exponents, Poly}
use Rattle.polynomials.specs.Value.{value, weigh, monomial_value, monomial_valueℕ, valueℕ}

module _ {ℓ} {K : Type ℓ} (𝓡 : CommRing K) where
  cast_pow : (x n : ℕ) → cast 𝓡 (x ^ n) ≡ pow 𝓡 (cast 𝓡 x) n
  unfolding pow
  cast_pow x zero = ap (cast 𝓡) (pow-zero x) ∙ cast_one 𝓡
  cast_pow x (suc n) = ap (cast 𝓡) (pow-succ' x n) ∙ cast_mul 𝓡 x (x ^ n) ∙ ap (λ z. 𝓡.mul (cast 𝓡 x) z) (cast_pow x n)

  cast_monomial : (x : List ℕ) (e : Exponents) → cast 𝓡 (monomial_valueℕ x e) ≡ monomial_value 𝓡 (map (cast 𝓡) x) e
  unfolding monomial_valueℕ monomial_value
  cast_monomial [] e = cast_one 𝓡
  cast_monomial (x ∷ xs) [] = cast_one 𝓡
  cast_monomial (x ∷ xs) (n ∷ e) = cast_mul 𝓡 (x ^ n) (monomial_valueℕ xs e) ∙ ap₂ 𝓡.mul (cast_pow x n) (cast_monomial xs e)

  -- The value at a point of numbers, in any ring.
  cast_value : (f : Poly) (x : List ℕ) → cast 𝓡 (valueℕ f x) ≡ value 𝓡 f (map (cast 𝓡) x)
  unfolding valueℕ weigh cast
  cast_value [] x = refl
  cast_value (t ∷ f) x =
      cast_add 𝓡 (t.coef * monomial_valueℕ x t.exps) (valueℕ f x)
      ∙ ap₂ 𝓡.add (cast_mul 𝓡 t.coef (monomial_valueℕ x t.exps) ∙ ap (λ z. 𝓡.mul (cast 𝓡 t.coef) z) (cast_monomial x t.exps)) (cast_value f x)

-- The paper's value, a remainder, is the value in the ring of residues.
value_residue : (p : ℕ) (h : 1 ≤ p) (f : Poly) (x : List ℕ) → valueℕ f x % p ≡ (value (Residues p h) f (map (cast (Residues p h)) x)).0
value_residue p h f x = ap (λ (z : Fin p). z.0) (sym (cast_residue p h (valueℕ f x)) ∙ cast_value (Residues p h) f x)

-- What is proved over any field holds of the paper's values: the prime field is one.
pub zero_residue : (p : ℕ) (P : Prime p) (f : Poly) (x : List ℕ) → (valueℕ f x % p ≡ 0) ↔ (value (PrimeField p P).ring f (map (cast (PrimeField p P).ring) x) ≡ (PrimeField p P).ring.nil)
unfolding PrimeField
zero_residue p P f x = (
  (λ e. native.Mathlib.Fin.val_path (sym (value_residue p (one≤ P) f x) ∙ e ∙ sym (nil_is p (one≤ P)))),
  (λ e. value_residue p (one≤ P) f x ∙ ap (λ (z : Fin p). z.0) e ∙ nil_is p (one≤ P)),
)
