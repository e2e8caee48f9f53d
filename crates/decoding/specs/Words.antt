-- The words that bytes make.
use Rattle.std.specs.Prelude.{◌≡◌, refl, List, [], ◌∷◌, ℕ, zero, suc, ◌+◌, ◌*◌, ◌/◌, length, get_or}

-- The number that the four bytes from byte i on spell, the lowest first.
abbrev pub word_at : List ℕ → ℕ → ℕ
word_at b i = get_or b i 0 + 256 * get_or b (i + 1) 0 + 65536 * get_or b (i + 2) 0 + 16777216 * get_or b (i + 3) 0

-- So many words, from word i of the bytes on.
unfoldable pub words_from : List ℕ → ℕ → ℕ → List ℕ
words_from b i zero = []
words_from b i (suc n) = word_at b (4 * i) ∷ words_from b (suc i) n

-- "Little-endian words": the whole ones that the bytes make.
unfoldable pub words_of : List ℕ → List ℕ
words_of b = words_from b 0 (length b / 4)

low_byte_first : words_of (7 ∷ 0 ∷ 0 ∷ 0 ∷ 1 ∷ 1 ∷ 0 ∷ 0 ∷ 9 ∷ []) ≡ 7 ∷ 257 ∷ []
unfolding words_of words_from
low_byte_first = refl
