-- Products: they commute; how many terms a row adds or takes away; and where no degree passes 255, no packed exponent does.
use Rattle.std.specs.Prelude.{◌≡◌, List, [], ◌∷◌, Bool, true, false, eqb, length, drop, get_or}
use Rattle.std.proofs.Common.{sym, ◌∙◌, subst}
use Rattle.std.proofs.Math.Path.{ap}
use Prim.Native.Nat.{ℕ, zero, suc, ◌+◌, ◌*◌, ◌%◌, ◌≤◌, ◌<◌, Ordering}
use Rattle.std.proofs.Math.Nat.{le-max_left, le-max_right}
use native.Mathlib.Omega.{arith}
use Rattle.polynomials.specs.Poly.{Exponents, Term, Poly, order, join, keep, insert, add_multiple, product}
use Rattle.polynomials.specs.Canonical.{Canonical}
use Rattle.polynomials.specs.Division.{degree, degrees}
use Rattle.polynomials.specs.Bounds.{at_most, some_over, degrees_over}
use Rattle.polynomials.specs.Packed.{bytes, terms, AllFit}
use Rattle.polynomials.specs.declared.Term.{Term as Packed}
use Rattle.polynomials.specs.laws.Order.{join_comm}
use Rattle.polynomials.specs.laws.Canonical.{canonical_product, canonical_ext}
use Rattle.polynomials.specs.laws.PolynomialRing.{w_product_comm}
use Rattle.polynomials.specs.laws.Bounds.{degrees_over_none}
use Rattle.polynomials.specs.laws.Packed.{fits}
use Rattle.polynomials.specs.laws.Terms.{terms_at, terms_drop}

pub product_comm : (p : ℕ) → 1 ≤ p → (f g : Poly) → product p f g ≡ product p g f
product_comm p h f g = canonical_ext p h (product p f g) (product p g f) (canonical_product p f g h) (canonical_product p g f h) (λ w. w_product_comm p h w f g)

pub degrees_over_comm : (m : ℕ) (f g : Poly) → degrees_over (at_most m) f g ≡ degrees_over (at_most m) g f
unfolding degrees_over
degrees_over_comm m f g = ap (some_over (at_most m)) (join_comm (degrees f) (degrees g))

-- ── how many terms ──
-- A term that goes in adds at most one, and cancels at most one.
abbrev Near : ℕ → ℕ → Type 0
Near m n = (m ≤ n + 1) × (n ≤ m + 1)

keep_length : (c : ℕ) (e : Exponents) (f : Poly) → (length f ≤ length (keep c e f)) × (length (keep c e f) ≤ length f + 1)
unfolding keep
keep_length c e f = go (eqb c 0)
  where
    go : (b : Bool) → (length f ≤ length {A = Term} (elim b [ true ↦ f | false ↦ record { coef = c; exps = e } ∷ f ]))
        × (length {A = Term} (elim b [ true ↦ f | false ↦ record { coef = c; exps = e } ∷ f ]) ≤ length f + 1)
    go true = omega arith
    go false = omega arith

insert_length : (p c : ℕ) (e : Exponents) (f : Poly) → Near (length f) (length (insert p c e f))
unfolding insert
insert_length p c e [] = omega (arith, keep_length c e [])
insert_length p c e (t ∷ f) = go (order e t.exps) (insert_length p c e f)
  where
    go : (o : Ordering) → Near (length f) (length (insert p c e f)) →
        Near (suc (length f)) (length {A = Term} (elim o [ Ordering.lt ↦ t ∷ insert p c e f | Ordering.eq ↦ keep ((c + t.coef) % p) e f | Ordering.gt ↦ keep c e (t ∷ f) ]))
    go Ordering.lt ih = omega arith
    go Ordering.eq ih = omega (arith, keep_length ((c + t.coef) % p) e f)
    go Ordering.gt ih = omega (arith, keep_length c e (t ∷ f))

-- A row changes the number of terms by at most its own.
pub add_multiple_length : (p c : ℕ) (e : Exponents) (g f : Poly) →
    (length f ≤ length (add_multiple p c e g f) + length g) × (length (add_multiple p c e g f) ≤ length f + length g)
unfolding add_multiple
add_multiple_length p c e [] f = omega arith
add_multiple_length p c e (t ∷ g) f = omega (arith, add_multiple_length p c e g f, insert_length p (c * t.coef % p) (join e t.exps) (add_multiple p c e g f))

pub product_length : (p : ℕ) (f g : Poly) → length (product p f g) ≤ length f * length g
unfolding product
product_length p [] g = omega arith
product_length p (t ∷ f) g = omega (arith, product_length p f g, add_multiple_length p t.coef t.exps g (product p f g))

-- The r rows that are left take away at most r times g's terms.
pub rows_left : (p r : ℕ) (f g : Poly) → length (product p (drop r f) g) ≤ length (product p f g) + r * length g
unfolding product
rows_left p zero f g = omega arith
rows_left p (suc r) [] g = omega arith
rows_left p (suc r) (t ∷ f) g = omega (arith, rows_left p r f g, add_multiple_length p t.coef t.exps g (product p f g))

-- ── degrees and exponents ──
degree_drop : (k r : ℕ) (f : Poly) → degree k (drop r f) ≤ degree k f
unfolding degree
degree_drop k zero f = omega arith
degree_drop k (suc r) [] = omega arith
degree_drop k (suc r) (t ∷ f) = omega (arith, degree_drop k r f, le-max_right (get_or t.exps k 0) (degree k f))

pub canonical_drop : (p r : ℕ) (f : Poly) → Canonical p f → Canonical p (drop r f)
canonical_drop p zero f c = c
canonical_drop p (suc r) [] c = tt
canonical_drop p (suc r) (t ∷ f) c = canonical_drop p r f c.3

all_fit : (m : ℕ) (g : List Packed) → ((k : ℕ) → get_or (bytes 8 m) k 0 + degree k (terms g) ≤ 255) → AllFit m g
unfolding terms degree
all_fit m [] h = tt
all_fit m (t ∷ g) h = (
  fits 8 m t.monomial (λ k l. omega (arith, h k, le-max_left (get_or (bytes 8 t.monomial) k 0) (degree k (terms g)))),
  all_fit m g (λ k. omega (arith, h k, le-max_right (get_or (bytes 8 t.monomial) k 0) (degree k (terms g)))),
)

-- ── the term t of f at place i, and g ──
module _ (f : List Packed) (i : ℕ) (t : Packed) (inside : i < length f) where
  abbrev at : Packed
  at = get_or f i t

  -- Its row of the product.
  pub row_added : (p : ℕ) (g : Poly) → product p (terms (drop i f)) g ≡ add_multiple p at.coefficient (bytes 8 at.monomial) g (product p (terms (drop (i + 1) f)) g)
  unfolding product
  row_added p g = ap (λ s. product p s g) (terms_at f i t inside)

  pub coefficient_below : (p : ℕ) → Canonical p (terms f) → at.coefficient < p
  coefficient_below p c = (subst (Canonical p) (sym (terms_drop i f) ∙ terms_at f i t inside) (canonical_drop p i (terms f) c)).1

  exponent_within : (k : ℕ) → get_or (bytes 8 at.monomial) k 0 ≤ degree k (terms f)
  unfolding degree
  exponent_within k =
      omega (
        arith,
        le-max_left (get_or (bytes 8 at.monomial) k 0) (degree k (terms (drop (i + 1) f))),
        ap (degree k) (sym (terms_drop i f) ∙ terms_at f i t inside),
        degree_drop k i (terms f),
      )

  -- Where no degrees pass 255, no exponent of a term product does.
  pub row_fits : (g : List Packed) → degrees_over (at_most 255) (terms f) (terms g) ≡ false → AllFit at.monomial g
  row_fits g h = all_fit at.monomial g (λ k. omega (arith, exponent_within k, degrees_over_none 255 (terms f) (terms g) h k))
