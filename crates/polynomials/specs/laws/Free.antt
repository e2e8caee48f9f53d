-- A variable that stands in no operand stands in no result.
use Rattle.std.specs.Prelude.{◌≡◌, refl, ◌≢◌, [], ◌∷◌, Bool, true, false, ℕ, zero, suc, ◌-◌, leb, get_or, set}
use Rattle.std.proofs.Common.{ap, arith}
use Rattle.residues.specs.Residue.{inverse}
use Rattle.polynomials.specs.Poly.{Exponents, Poly, join, add_multiple, difference, product, monic}
use Rattle.polynomials.specs.Canonical.{All}
use Rattle.polynomials.specs.Division.{degree, coefficient, pure_power, shift, factor, round, remainder}
use Rattle.polynomials.specs.laws.All.{coefficient_all, shift_all, all_add_multiple, all_product}
use Rattle.polynomials.specs.laws.Degree.{at_join}

-- v(j+1) does not stand in f.
abbrev pub Free : ℕ → Poly → Type 0
Free j f = All (λ a. get_or a j 0 ≡ 0) f

at_set_free : (j k : ℕ) (a : Exponents) → get_or a j 0 ≡ 0 → get_or (set a k 0) j 0 ≡ 0
at_set_free j k [] h = h
at_set_free zero zero (x ∷ a) h = refl
at_set_free zero (suc k) (x ∷ a) h = h
at_set_free (suc j) zero (x ∷ a) h = h
at_set_free (suc j) (suc k) (x ∷ a) h = at_set_free j k a h

at_pure_power_free : (j k m : ℕ) → j ≢ k → get_or (pure_power k m) j 0 ≡ 0
unfolding pure_power
at_pure_power_free zero zero m n = absurd (n refl)
at_pure_power_free (suc j) zero m n = refl
at_pure_power_free zero (suc k) m n = refl
at_pure_power_free (suc j) (suc k) m n = at_pure_power_free j k m (λ e. n (ap suc e))

free_coefficient : (j k d : ℕ) (f : Poly) → Free j f → Free j (coefficient k d f)
free_coefficient j k d f u = coefficient_all (λ a. get_or a j 0 ≡ 0) (λ a. get_or a j 0 ≡ 0) k d f (at_set_free j k) u

free_shift : (j k m : ℕ) (f : Poly) → j ≢ k → Free j f → Free j (shift k m f)
free_shift j k m f n u =
    shift_all (λ a. get_or a j 0 ≡ 0) (λ a. get_or a j 0 ≡ 0) k m f
    (λ (a : Exponents) (h : get_or a j 0 ≡ 0). omega (arith, at_join j (pure_power k m) a, at_pure_power_free j k m n)) u

free_product : (j p : ℕ) (f g : Poly) → Free j f → Free j g → Free j (product p f g)
free_product j p f g u v = all_product (λ a. get_or a j 0 ≡ 0) (λ a. get_or a j 0 ≡ 0) (λ a. get_or a j 0 ≡ 0) p f g (λ a b x y. omega (arith, at_join j a b)) u v

free_multiple : (j p c : ℕ) (g f : Poly) → Free j g → Free j f → Free j (add_multiple p c [] g f)
unfolding join
free_multiple j p c g f u v = all_add_multiple (λ a. get_or a j 0 ≡ 0) (λ a. get_or a j 0 ≡ 0) p c [] g f (λ b h. h) u v

free_difference : (j p : ℕ) (f g : Poly) → Free j f → Free j g → Free j (difference p f g)
unfolding difference
free_difference j p f g u v = free_multiple j p (p - 1) g f v u

pub free_monic : (j p : ℕ) (f : Poly) → Free j f → Free j (monic p f)
unfolding monic
free_monic j p [] u = tt
free_monic j p (t ∷ f) u = free_multiple j p (inverse p t.coef) (t ∷ f) [] u tt

free_round : (j p k d : ℕ) (G R : Poly) → j ≢ k → Free j G → Free j R → Free j (round p k d G R)
unfolding round factor
free_round j p k d G R n u v =
    free_difference j p _ _ (free_product j p (coefficient k d G) R (free_coefficient j k d G u) v)
    (free_product j p (factor k d R) G (free_shift j k (degree k R - d) _ n (free_coefficient j k (degree k R) R v)) u)

pub free_remainder : (j p k d : ℕ) (G : Poly) → j ≢ k → Free j G → (n : ℕ) (R : Poly) → Free j R → Free j (remainder p k d G n R)
unfolding remainder
free_remainder j p k d G m u zero R v = v
free_remainder j p k d G m u (suc n) R v = go (leb d (degree k R)) (free_remainder j p k d G m u n (round p k d G R) (free_round j p k d G R m u v))
  where
    go : (b : Bool) → Free j (remainder p k d G n (round p k d G R)) → Free j (elim b [ true ↦ remainder p k d G n (round p k d G R) | false ↦ R ])
    go true ih = ih
    go false ih = v
