-- What a table with an accepted header is of the words that were read, and what is read of it.
use Rattle.std.specs.Prelude.{◌≡◌, List, ℕ}
use Rattle.polynomials.specs.Poly.{Poly}
use Rattle.tables.specs.Words.{word, records}
use Rattle.tables.specs.Read.{good, read_head, read_heads}
use Rattle.words.specs.declared.Table.{Table}

-- The table of these words: the header has its prime and its number of variables.
pub record TableOf (w : List ℕ) (t : Table) : Type 0 where
  pub words : t.words.now ≡ w
  pub modulus : t.modulus ≡ word w 0 0
  pub variables : t.variables ≡ word w 0 1

-- f is the polynomial with its head in record `head`.
abbrev pub IsPolynomialAt : Table → ℕ → Poly → Type 0
IsPolynomialAt t head f = read_head t.words.now t.modulus t.variables head ≡ good f

-- fs are the polynomials from the index `first` on, which record `from` holds.
abbrev pub ArePolynomialsFrom : Table → ℕ → ℕ → List Poly → Type 0
ArePolynomialsFrom t from first fs = read_heads t.words.now t.modulus t.variables (records t.words.now) from first ≡ good fs
