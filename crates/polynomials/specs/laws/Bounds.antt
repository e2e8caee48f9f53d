-- What the tests of degrees say, place by place; the degrees of a polynomial that pairs of words hold.
use Rattle.std.specs.Prelude.{◌≡◌, refl, List, [], ◌∷◌, Bool, true, false, ◌||◌, ℕ, zero, suc, ◌+◌, ◌≤◌, ◌<◌, max, ltb, length, get_or}
use Rattle.std.proofs.Common.{sym, ◌∙◌, ap, ap₂, arith, lt-ltb, le-ltb, ltb-false}
use Rattle.std.proofs.Math.Bool.{or-true}
use Rattle.std.proofs.Math.ListN.{get_or-eq_default}
use Rattle.polynomials.specs.Poly.{Exponents, Poly, join}
use Rattle.polynomials.specs.Division.{degree, largest, degrees}
use Rattle.polynomials.specs.Packed.{bytes, terms}
use Rattle.polynomials.specs.declared.Term.{Term as Packed}
use Rattle.polynomials.specs.Bounds.{at_most, over, some_over, degrees_over}
use Rattle.polynomials.specs.laws.Degree.{at_join}
use Rattle.polynomials.specs.laws.Packed.{length_bytes, byte_small}

pub or_false_both : (a b : Bool) → a || b ≡ false → (a ≡ false) × (b ≡ false)
or_false_both true b h = (h, cc)
or_false_both false b h = (refl, h)

-- ── some exponent is over m ──
pub over_at : (m k : ℕ) (e : Exponents) → m < get_or e k 0 → some_over (at_most m) e ≡ true
unfolding some_over over
over_at m k [] h = absurd (omega arith)
over_at m zero (n ∷ e) h = ap (λ b. b || some_over (at_most m) e) (lt-ltb m n h)
over_at m (suc k) (n ∷ e) h = ap (λ b. ltb m n || b) (over_at m k e h) ∙ or-true (ltb m n)

none_over : (m : ℕ) (e : Exponents) → ((k : ℕ) → get_or e k 0 ≤ m) → some_over (at_most m) e ≡ false
unfolding some_over over
none_over m [] h = refl
none_over m (n ∷ e) h = ap₂ ◌||◌ (le-ltb m n (h 0)) (none_over m e (λ k. h (suc k)))

pub over_none : (m : ℕ) (e : Exponents) → some_over (at_most m) e ≡ false → (k : ℕ) → get_or e k 0 ≤ m
unfolding some_over over
over_none m [] h k = omega arith
over_none m (n ∷ e) h zero = ltb-false m n (or_false_both (ltb m n) (some_over (at_most m) e) h).0
over_none m (n ∷ e) h (suc k) = over_none m e (or_false_both (ltb m n) (some_over (at_most m) e) h).1 k

-- ── the degrees at one place ──
at_largest : (k : ℕ) (a b : Exponents) → get_or (largest a b) k 0 ≡ max (get_or a k 0) (get_or b k 0)
unfolding largest
at_largest k [] b = omega arith
at_largest k (x ∷ a) [] = omega arith
at_largest zero (x ∷ a) (y ∷ b) = refl
at_largest (suc k) (x ∷ a) (y ∷ b) = at_largest k a b

pub at_degrees : (k : ℕ) (f : Poly) → get_or (degrees f) k 0 ≡ degree k f
unfolding degrees degree
at_degrees k [] = refl
at_degrees k (t ∷ f) = at_largest k t.exps (degrees f) ∙ ap (max (get_or t.exps k 0)) (at_degrees k f)

at_both : (k : ℕ) (f g : Poly) → get_or (join (degrees f) (degrees g)) k 0 ≡ degree k f + degree k g
at_both k f g = at_join k (degrees f) (degrees g) ∙ ap₂ ◌+◌ (at_degrees k f) (at_degrees k g)

pub degrees_over_at : (m k : ℕ) (f g : Poly) → m < degree k f + degree k g → degrees_over (at_most m) f g ≡ true
unfolding degrees_over
degrees_over_at m k f g h = over_at m k (join (degrees f) (degrees g)) (omega (arith, at_both k f g))

pub no_degrees_over : (m : ℕ) (f g : Poly) → ((k : ℕ) → degree k f + degree k g ≤ m) → degrees_over (at_most m) f g ≡ false
unfolding degrees_over
no_degrees_over m f g h = none_over m (join (degrees f) (degrees g)) (λ k. omega (arith, at_both k f g, h k))

pub degrees_over_none : (m : ℕ) (f g : Poly) → degrees_over (at_most m) f g ≡ false → (k : ℕ) → degree k f + degree k g ≤ m
unfolding degrees_over
degrees_over_none m f g h k = omega (arith, at_both k f g, over_none m (join (degrees f) (degrees g)) h k)

-- ── the degrees of packed terms: eight, at most 255 ──
length_largest : (a b : Exponents) → length (largest a b) ≡ max (length a) (length b)
unfolding largest
length_largest [] b = omega arith
length_largest (x ∷ a) [] = omega arith
length_largest (x ∷ a) (y ∷ b) = omega (arith, length_largest a b)

length_degrees : (s : List Packed) → length (degrees (terms s)) ≤ 8
unfolding terms degrees
length_degrees [] = omega arith
length_degrees (t ∷ s) = omega (arith, length_largest (bytes 8 t.monomial) (degrees (terms s)), length_bytes 8 t.monomial, length_degrees s)

pub degree_past : (k : ℕ) (s : List Packed) → 8 ≤ k → degree k (terms s) ≡ 0
degree_past k s h = sym (at_degrees k (terms s)) ∙ get_or-eq_default (degrees (terms s)) 0 (omega (arith, length_degrees s))

pub degree_small : (k : ℕ) (s : List Packed) → degree k (terms s) ≤ 255
unfolding terms degree
degree_small k [] = omega arith
degree_small k (t ∷ s) = omega (arith, byte_small 8 t.monomial k, degree_small k s)
