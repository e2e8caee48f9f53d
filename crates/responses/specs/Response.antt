-- What the program prints for the bytes on standard input.
use Rattle.std.specs.Prelude.{Bool, true, false, not, ◌||◌, List, [], ◌∷◌, ◌++◌, ℕ, ◌%◌, eqb, ltb, length}
use Rattle.tables.specs.Reason.{number}
use Rattle.rules.specs.Written.{list_records}
use Rattle.rules.specs.Eliminate.{Eliminated, listed, turned_back, eliminated}
use Rattle.decoding.specs.Words.{words_of}
use Rattle.lines.specs.Text.{line_text}
use Rattle.responses.specs.Said.{records_text}

-- "It prints outcome (0 or the refusal), steps, then systems or the record; after an outcome of 0, each written record on a line."
unfoldable pub answer_text : Eliminated → List ℕ
answer_text (listed n ss words) = line_text (0 ∷ n ∷ length ss ∷ []) ++ records_text words 0 (list_records ss)
answer_text (turned_back n why at) = line_text (number why ∷ n ∷ at ∷ [])

-- "Longer input, or a broken last word": more bytes than 4,096 records have, or a number that 4 does not divide.
abbrev pub too_long_or_broken : List ℕ → Bool
too_long_or_broken bytes = ltb 65536 (length bytes) || not (eqb (length bytes % 4) 0)

-- It "reads standard input as little-endian words, at most 4,096 records, with work area and output of 4,096 records each and a limit of 100,000
-- steps. Longer input, or a broken last word, is refusal 1."
unfoldable pub response : List ℕ → List ℕ
response bytes =
    elim (too_long_or_broken bytes) [
      | true ↦ line_text (1 ∷ 0 ∷ 0 ∷ [])
      | false ↦ answer_text (eliminated (words_of bytes) 16384 16384 100000)
    ]
