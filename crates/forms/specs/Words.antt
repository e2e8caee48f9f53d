-- A polynomial as 64-bit words: pairs, a term's coefficient and then its monomial.
use Rattle.std.specs.Prelude.{List, [], ◌∷◌, Bool, ◌&&◌, ℕ, ◌%◌, eqb, leb, length}
use Rattle.polynomials.specs.Packed.{terms}
use Rattle.polynomials.specs.Working.{is_canonical}
use Rattle.polynomials.specs.declared.Term.{Term as Packed}

-- The terms of the pairs. A coefficient without its monomial is none.
unfoldable pub paired : List ℕ → List Packed
paired [] = []
paired (c ∷ []) = []
paired (c ∷ (m ∷ s)) = record { coefficient = c; monomial = m } ∷ paired s

-- Whether the words are pairs that hold a polynomial, as a test: true exactly where they are pairs and `Holds` of their terms (`HeldLaws`).
unfoldable pub words_are_held : ℕ → List ℕ → Bool
words_are_held p s = eqb (length s % 2) 0 && (leb (length s) 512 && is_canonical p (terms (paired s)))
