-- What the code of `products` plugs its places into: the buffers lent, the single row, the factors exchanged, and the tested product.
use Rattle.std.specs.Prelude.{◌≡◌, refl, ◌≢◌, List, [], ◌∷◌, Bool, true, false, ℕ, ◌+◌, ◌≤◌, ◌<◌, length, get_or, Result, Ok, Err}
use Rattle.std.proofs.Common.{sym, ◌∙◌, ap, subst, arith}
use Rattle.polynomials.specs.Poly.{Poly, product}
use Rattle.polynomials.specs.Bounds.{Bounded, within, degree_passed, standard, at_most, tested, degrees_over, bounded_product}
use Rattle.polynomials.specs.declared.Term.{Term as Packed}
use Rattle.polynomials.specs.declared.Passed.{Passed}
use Rattle.polynomials.specs.declared.Passed.TheVariants.{Degree}
use Rattle.polynomials.specs.Packed.{terms}
use Rattle.polynomials.specs.Working.{Written, Forms}
use Rattle.polynomials.specs.laws.Terms.{length_terms}
use Rattle.polynomials.specs.laws.Product.{product_comm}
use Rattle.products.specs.Lent.{lent_for_product}
use Rattle.sums.proofs.MergeLaws.{within_terms_formed}
use Rattle.gathering.proofs.GatherLaws.{Factors, RowsFrom, row, rows_none, row_terms, row_gathered}

-- The terms lent for factors of a and b terms are those for b and a.
pub lent_exchanged : (a b x : ℕ) → lent_for_product a b ≤ x → lent_for_product b a ≤ x
lent_exchanged a b x h = omega arith

-- ── a single row is the product ──
pub single_row : {p : ℕ} {f g : List Packed} (F : Factors p f g) (d : Packed) (x : List Packed) (n : ℕ) → length f ≡ 1 → Written (row p (get_or f 0 d) g []) n x
    → Forms (tested standard (product p (terms f) (terms g))) (Ok n) x
single_row {p} {f} {g} F d x n single w =
    within_terms_formed (product p (terms f) (terms g)) n x (row_gathered F 0 d (get_or f 0 d) inside refl none w).written
    (omega (arith, F.right.few, row_terms F 0 d (get_or f 0 d) inside refl none w))
  where
    inside : 0 < length f
    inside = omega arith

    none : RowsFrom p f g (0 + 1) 0 []
    none = let next : 0 + 1 ≡ length f = omega arith in subst (λ (i : ℕ). RowsFrom p f g i 0 []) (sym next) (rows_none F [])

-- The factors may change places.
pub exchanged : (p : ℕ) → 1 ≤ p → (f g : Poly) (r : Result ℕ Passed) (x : List Packed) → Forms (tested standard (product p g f)) r x → Forms (tested standard (product p f g)) r x
exchanged p h f g r x w = subst (λ s. Forms (tested standard s) r x) (product_comm p h g f) w

-- ── the product, tested ──
nothing_formed : (x : List Packed) → Forms (within []) (Ok 0) x
unfolding terms
nothing_formed x = (refl, record { within = omega arith; holds = refl })

pub zero_left : (p : ℕ) (f g x : List Packed) → length f ≡ 0 → Forms (bounded_product standard p (terms f) (terms g)) (Ok 0) x
unfolding terms bounded_product
zero_left p [] g x h = nothing_formed x
zero_left p (t ∷ f) g x h = absurd (omega arith)

pub zero_right : (p : ℕ) (f g x : List Packed) → length g ≡ 0 → Forms (bounded_product standard p (terms f) (terms g)) (Ok 0) x
unfolding terms bounded_product
zero_right p f (u ∷ g) x h = absurd (omega arith)
zero_right p [] [] x h = nothing_formed x
zero_right p (t ∷ f) [] x h = nothing_formed x

nonzero_product : (p : ℕ) (f g : Poly) → 0 < length f → 0 < length g →
    bounded_product standard p f g ≡ elim (degrees_over (at_most 255) f g) as (λ b. Bounded) [ true ↦ degree_passed | false ↦ tested standard (product p f g) ]
unfolding bounded_product
nonzero_product p [] g h k = absurd (omega arith)
nonzero_product p (t ∷ f) [] h k = absurd (omega arith)
nonzero_product p (t ∷ f) (u ∷ g) h k = refl

module _ (p : ℕ) (f g : List Packed) (nf : length f ≢ 0) (ng : length g ≢ 0) where
  as_tested : (b : Bool) → degrees_over (at_most 255) (terms f) (terms g) ≡ b →
      bounded_product standard p (terms f) (terms g) ≡ elim b as (λ b. Bounded) [ true ↦ degree_passed | false ↦ tested standard (product p (terms f) (terms g)) ]
  as_tested b e =
      nonzero_product p (terms f) (terms g) (omega (arith, length_terms f)) (omega (arith, length_terms g))
      ∙ ap (λ b. elim b as (λ b. Bounded) [ true ↦ degree_passed | false ↦ tested standard (product p (terms f) (terms g)) ]) e

  pub over_degree : (x : List Packed) → degrees_over (at_most 255) (terms f) (terms g) ≡ true → Forms (bounded_product standard p (terms f) (terms g)) (Err Degree) x
  over_degree x e = subst (λ b. Forms b (Err Degree) x) (sym (as_tested true e)) refl

  pub by_rows : degrees_over (at_most 255) (terms f) (terms g) ≡ false → (r : Result ℕ Passed) (x : List Packed) →
      Forms (tested standard (product p (terms f) (terms g))) r x → Forms (bounded_product standard p (terms f) (terms g)) r x
  by_rows e r x w = subst (λ b. Forms b r x) (sym (as_tested false e)) w
