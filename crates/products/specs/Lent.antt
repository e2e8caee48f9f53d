-- How long the buffers must be that are lent for a product.
use Rattle.std.specs.Prelude.{ℕ, ◌*◌, min}

-- For factors of a and b terms: so many that all their term products fit, or 512. With 512 the product can still be copied here from longer buffers.
abbrev pub lent_for_product : ℕ → ℕ → ℕ
lent_for_product a b = min 512 (a * b)
