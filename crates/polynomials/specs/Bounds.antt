-- The bounds that document 01 sets on degrees and terms, as tests around the unbounded operations: refusal 10 where a product's degrees
-- pass the one, refusal 9 where a product or a difference has more terms than the other. A bound may be absent.
use Rattle.std.specs.Prelude.{Bool, true, false, ◌||◌, [], ◌∷◌, ℕ, zero, suc, leb, ltb, length}
use Rattle.polynomials.specs.Poly.{Exponents, Poly, join, difference, product}
use Rattle.polynomials.specs.Division.{degree, degrees, coefficient, factor}

pub data Bound : Type 0 where
  at_most : ℕ → Bound
  unbounded : Bound

unfoldable pub over : Bound → ℕ → Bool
over (at_most m) n = ltb m n
over unbounded n = false

pub record Bounds : Type 0 where
  pub of_degree : Bound
  pub of_terms : Bound

-- "Exponents 0 to 255 each", "at most 256 terms".
abbrev pub standard : Bounds
standard = record { of_degree = at_most 255; of_terms = at_most 256 }

-- Both absent.
abbrev pub no_bounds : Bounds
no_bounds = record { of_degree = unbounded; of_terms = unbounded }

-- The polynomial that was formed, or which bound it passes.
pub data Bounded : Type 0 where
  within : Poly → Bounded
  degree_passed : Bounded
  terms_passed : Bounded

-- What follows a polynomial that was formed.
abbrev pub and_then : Bounded → (Poly → Bounded) → Bounded
and_then (within f) k = k f
and_then degree_passed k = degree_passed
and_then terms_passed k = terms_passed

unfoldable pub some_over : Bound → Exponents → Bool
some_over b [] = false
some_over b (n ∷ e) = over b n || some_over b e

-- "if for some variable the two degrees sum to over 255, refusal 10"
unfoldable pub degrees_over : Bound → Poly → Poly → Bool
degrees_over b f g = some_over b (join (degrees f) (degrees g))

-- "if the product has over 256 terms, refusal 9"; "A difference is tested for 9 only."
unfoldable pub tested : Bounds → Poly → Bounded
tested b f = elim (over b.of_terms (length f)) [ true ↦ terms_passed | false ↦ within f ]

-- "Product: a zero factor gives zero, untested. Else, .. refusal 10; then, .. refusal 9."
unfoldable pub bounded_product : Bounds → ℕ → Poly → Poly → Bounded
bounded_product b p [] g = within []
bounded_product b p (t ∷ f) [] = within []
bounded_product b p (t ∷ f) (u ∷ g) =
    elim (degrees_over b.of_degree (t ∷ f) (u ∷ g)) [ true ↦ degree_passed | false ↦ tested b (product p (t ∷ f) (u ∷ g)) ]

unfoldable pub bounded_difference : Bounds → ℕ → Poly → Poly → Bounded
bounded_difference b p f g = tested b (difference p f g)

-- "Formed and tested in the order I×R, the other product, the difference."
unfoldable pub bounded_round : Bounds → ℕ → ℕ → ℕ → Poly → Poly → Bounded
bounded_round b p k d T R =
    and_then (bounded_product b p (coefficient k d T) R) (λ x. and_then (bounded_product b p (factor k d R) T) (λ y. bounded_difference b p x y))

-- "while the degree e of R in vk (0 for zero) is at least d", in at most n rounds.
unfoldable pub bounded_remainder : Bounds → ℕ → ℕ → ℕ → Poly → ℕ → Poly → Bounded
bounded_remainder b p k d T zero R = within R
bounded_remainder b p k d T (suc n) R =
    elim (leb d (degree k R)) [ true ↦ and_then (bounded_round b p k d T R) (bounded_remainder b p k d T n) | false ↦ within R ]
