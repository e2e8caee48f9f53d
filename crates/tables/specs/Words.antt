-- The words of a table: records of four, indices, and how an index is followed.
use Rattle.std.specs.Prelude.{Bool, true, false, ◌&&◌, List, ℕ, ◌+◌, ◌*◌, ◌/◌, ◌%◌, eqb, leb, ltb, length, get_or}
use Rattle.polynomials.specs.Poly.{Term}
use Rattle.polynomials.specs.Packed.{exponents}

-- Word j of record i.
abbrev pub word : List ℕ → ℕ → ℕ → ℕ
word w i j = get_or w (4 * i + j) 0

-- How many whole records the words make.
abbrev pub records : List ℕ → ℕ
records w = length w / 4

-- "In records of four, 1 to 65,536 records."
unfoldable pub is_whole : List ℕ → Bool
is_whole w = eqb (length w % 4) 0 && (leb 1 (records w) && leb (records w) 65536)

-- "Index 0 ends a chain. Every other index must be greater than the number of the record that holds it and less than the record count."
pub data Followed : Type 0 where
  end : Followed
  to : ℕ → Followed
  astray : Followed

unfoldable pub follow : List ℕ → ℕ → ℕ → Followed
follow w at i = elim (eqb i 0) [ true ↦ end | false ↦ elim (ltb at i && ltb i (records w)) [ true ↦ to i | false ↦ astray ] ]

-- The term in record i.
abbrev pub term_at : List ℕ → ℕ → Term
term_at w i = record { coef = word w i 0; exps = exponents (word w i 1) (word w i 2) }
