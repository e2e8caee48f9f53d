-- Exponents of one length: the operations keep it.
use Rattle.std.specs.Prelude.{◌≡◌, refl, Bool, leb, length}
use Rattle.std.proofs.Common.{◌∙◌, ap, arith, length-set}
use mathlib.Core.List.{List, [], ◌∷◌}
use Rattle.std.proofs.Math.Bool.{true, false}
use Prim.Native.Nat.{ℕ, zero, suc, ◌-◌, ◌≤◌, ◌<◌, max}
use Rattle.residues.specs.Residue.{inverse}
use Rattle.polynomials.specs.Poly.{Exponents, Poly, join, add_multiple, difference, product, monic}
use Rattle.polynomials.specs.Canonical.{All}
use Rattle.polynomials.specs.Division.{degree, coefficient, without, initial, rest, pure_power, shift, factor, round, remainder}
use Rattle.polynomials.specs.Packed.{terms}
use Rattle.polynomials.specs.declared.Term.{Term as Packed}
use Rattle.polynomials.specs.laws.Packed.{length_bytes}
use Rattle.polynomials.specs.laws.All.{coefficient_all, without_all, shift_all, all_add_multiple, all_product}

abbrev pub Places : ℕ → Poly → Type 0
Places n f = All (λ e. length e ≡ n) f

length_join : (a b : Exponents) → length (join a b) ≡ max (length a) (length b)
unfolding join
length_join [] b = omega arith
length_join (x ∷ a) [] = omega arith
length_join (x ∷ a) (y ∷ b) = omega (arith, length_join a b)

length_pure_power : (k m : ℕ) → length (pure_power k m) ≡ suc k
unfolding pure_power
length_pure_power zero m = refl
length_pure_power (suc k) m = ap suc (length_pure_power k m)

-- A packed term has eight.
pub places_terms : (s : List Packed) → Places 8 (terms s)
unfolding terms
places_terms [] = tt
places_terms (t ∷ s) = (length_bytes 8 t.monomial, places_terms s)

module _ (n : ℕ) where
  pub places_coefficient : (k d : ℕ) (f : Poly) → Places n f → Places n (coefficient k d f)
  places_coefficient k d f u = coefficient_all (λ e. length e ≡ n) (λ e. length e ≡ n) k d f (λ e h. length-set e k 0 ∙ h) u

  places_without : (k d : ℕ) (f : Poly) → Places n f → Places n (without k d f)
  places_without k d f u = without_all (λ e. length e ≡ n) k d f u

  pub places_initial : (k : ℕ) (f : Poly) → Places n f → Places n (initial k f)
  unfolding initial
  places_initial k f u = places_coefficient k (degree k f) f u

  pub places_rest : (k : ℕ) (f : Poly) → Places n f → Places n (rest k f)
  unfolding rest
  places_rest k f u = places_without k (degree k f) f u

  places_shift : (k m : ℕ) (f : Poly) → k < n → Places n f → Places n (shift k m f)
  places_shift k m f l u =
      shift_all (λ e. length e ≡ n) (λ e. length e ≡ n) k m f
      (λ (e : Exponents) (h : length e ≡ n). omega (arith, length_join (pure_power k m) e, length_pure_power k m)) u

  places_factor : (k d : ℕ) (R : Poly) → k < n → Places n R → Places n (factor k d R)
  unfolding factor
  places_factor k d R l u = places_shift k (degree k R - d) (coefficient k (degree k R) R) l (places_coefficient k (degree k R) R u)

  places_add_multiple : (p c : ℕ) (e : Exponents) (g f : Poly) → length e ≤ n → Places n g → Places n f → Places n (add_multiple p c e g f)
  places_add_multiple p c e g f l u v =
      all_add_multiple (λ b. length b ≡ n) (λ b. length b ≡ n) p c e g f (λ (b : Exponents) (h : length b ≡ n). omega (arith, length_join e b)) u v

  places_difference : (p : ℕ) (f g : Poly) → Places n f → Places n g → Places n (difference p f g)
  unfolding difference
  places_difference p f g u v = places_add_multiple p (p - 1) [] g f (omega arith) v u

  places_product : (p : ℕ) (f g : Poly) → Places n f → Places n g → Places n (product p f g)
  places_product p f g u v =
      all_product (λ a. length a ≡ n) (λ b. length b ≡ n) (λ e. length e ≡ n) p f g
      (λ (a b : Exponents) (h : length a ≡ n) (i : length b ≡ n). omega (arith, length_join a b)) u v

  pub places_monic : (p : ℕ) (f : Poly) → Places n f → Places n (monic p f)
  unfolding monic
  places_monic p [] u = tt
  places_monic p (t ∷ f) u = places_add_multiple p (inverse p t.coef) [] (t ∷ f) [] (omega arith) u tt

  places_round : (p k d : ℕ) (G R : Poly) → k < n → Places n G → Places n R → Places n (round p k d G R)
  unfolding round
  places_round p k d G R l u v =
      places_difference p (product p (coefficient k d G) R) (product p (factor k d R) G) (places_product p (coefficient k d G) R (places_coefficient k d G u) v)
      (places_product p (factor k d R) G (places_factor k d R l v) u)

  pub places_remainder : (p k d : ℕ) (G : Poly) → k < n → Places n G → (s : ℕ) (R : Poly) → Places n R → Places n (remainder p k d G s R)
  unfolding remainder
  places_remainder p k d G l u zero R v = v
  places_remainder p k d G l u (suc s) R v = go (leb d (degree k R)) (places_remainder p k d G l u s (round p k d G R) (places_round p k d G R l u v))
    where
      go : (b : Bool) → Places n (remainder p k d G s (round p k d G R)) → Places n (elim b [ true ↦ remainder p k d G s (round p k d G R) | false ↦ R ])
      go true ih = ih
      go false ih = v
