-- "A written list is laid out as header, then for each system: its record, its T heads, its U heads, each head followed by its terms."
use Rattle.std.specs.Prelude.{List, [], ◌∷◌, ◌++◌, ℕ, suc, ◌+◌, length, take, drop}
use Rattle.polynomials.specs.Poly.{Poly}
use Rattle.polynomials.specs.Packed.{word}
use Rattle.tables.specs.Read.{System, Listing}
use Rattle.rules.specs.Room.{polynomials_size, systems_size}

-- The index i, or 0 where nothing follows.
abbrev pub index_of : {A : Type 0} → List A → ℕ → ℕ
index_of [] i = 0
index_of (x ∷ xs) i = i

-- The records of a polynomial's terms, from record i on.
unfoldable pub terms_words : ℕ → Poly → List ℕ
terms_words i [] = []
terms_words i (t ∷ f) = t.coef ∷ word (drop 4 t.exps) ∷ word (take 4 t.exps) ∷ index_of f (suc i) ∷ terms_words (suc i) f

-- A chain of heads from record i on, each followed by its terms.
unfoldable pub heads_words : ℕ → List Poly → List ℕ
heads_words i [] = []
heads_words i (f ∷ fs) = index_of f (suc i) ∷ 0 ∷ 0 ∷ index_of fs (suc (i + length f)) ∷ (terms_words (suc i) f ++ heads_words (suc (i + length f)) fs)

-- One system from record i on, with `next` as its link.
abbrev pub system_words : ℕ → ℕ → System → List ℕ
system_words i next s =
    index_of s.T (suc i) ∷ index_of s.U (suc i + polynomials_size s.T) ∷ 0 ∷ next
    ∷ (heads_words (suc i) s.T ++ heads_words (suc i + polynomials_size s.T) s.U)

-- The systems from record i on.
unfoldable pub systems_words : ℕ → List System → List ℕ
systems_words i [] = []
systems_words i (s ∷ ss) = system_words i (index_of ss (i + systems_size (s ∷ []))) s ++ systems_words (i + systems_size (s ∷ [])) ss

unfoldable pub list_words : Listing → List ℕ
list_words l = l.modulus ∷ l.variables ∷ index_of l.systems 1 ∷ length l.systems ∷ systems_words 1 l.systems

-- The records that a list needs.
unfoldable pub list_records : List System → ℕ
list_records ss = 1 + systems_size ss
