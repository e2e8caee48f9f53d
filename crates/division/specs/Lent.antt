-- How long the buffers must be that are lent for a round of a division.
use Rattle.std.specs.Prelude.{ℕ, ◌+◌, ◌*◌, min}

-- To take the product of factors of l and m terms from a terms: so many that all term products fit beside these, or 512.
abbrev pub lent_for_difference : ℕ → ℕ → ℕ → ℕ
lent_for_difference a l m = min 512 (a + l * m)

-- For R of n terms, an initial of c terms and a pivot of m terms: so many that all term products of I×R and L×T fit together, L having at most n terms; or 512.
abbrev pub lent_for_round : ℕ → ℕ → ℕ → ℕ
lent_for_round n c m = min 512 (n * (c + m))
