-- Exponents packed as bytes: eight in a 64-bit monomial, v1's lowest; and in a table's two words, four in each.
use Rattle.std.specs.Prelude.{List, [], ◌∷◌, ◌++◌, map, ℕ, zero, suc, ◌+◌, ◌*◌, ◌/◌, ◌%◌, ◌<◌}
use Rattle.polynomials.specs.Poly.{Exponents, Term, Poly}
use Rattle.polynomials.specs.declared.Term.{Term as Packed}

-- The n lowest bytes of a number, the lowest first.
unfoldable pub bytes : ℕ → ℕ → Exponents
bytes zero w = []
bytes (suc n) w = w % 256 ∷ bytes n (w / 256)

-- The number of these bytes, the lowest first.
unfoldable pub word : Exponents → ℕ
word [] = 0
word (b ∷ e) = b + 256 * word e

-- The exponents of a term's two words.
unfoldable pub exponents : ℕ → ℕ → Exponents
exponents hi lo = bytes 4 lo ++ bytes 4 hi

-- No byte of the sum of the n lowest is over 255.
abbrev pub Fits : ℕ → ℕ → ℕ → Type 0
Fits zero w v = Unit {0}
Fits (suc n) w v = (w % 256 + v % 256 < 256) × Fits n (w / 256) (v / 256)

-- A working polynomial is a list of packed terms.
abbrev pub term : Packed → Term
term t = record { coef = t.coefficient; exps = bytes 8 t.monomial }

unfoldable pub terms : List Packed → Poly
terms s = map term s

-- No exponent of m times a term passes 255.
abbrev pub AllFit : ℕ → List Packed → Type 0
AllFit m [] = Unit {0}
AllFit m (t ∷ s) = Fits 8 m t.monomial × AllFit m s
