-- What a call of `respond` leaves in the buffers that it decodes and runs in.
use Rattle.std.specs.Prelude.{◌≡◌, refl, true, false, List, [], ◌∷◌, ◌++◌, ℕ, ◌/◌, length, drop, replicate}
use Rattle.std.proofs.Common.{sym, true≢false}
use Rattle.tables.specs.Words.{is_whole}
use Rattle.tables.specs.Read.{read_header, read_table}
use Rattle.rules.specs.Eliminate.{eliminated, output_after}
use Rattle.decoding.specs.Words.{words_from, words_of}
use Rattle.responses.specs.Response.{too_long_or_broken}

-- "The work area is all zero on every return." "Longer input, or a broken last word, is refusal 1": then the other two stay. Otherwise the bytes' words stand
-- in the first words of `words` and the others stay, and the output is what the elimination leaves, refused or accepted.
pub record Responded (bytes words work output words' work' output' : List ℕ) : Type 0 where
  pub cleared : work' ≡ replicate (length work) 0
  pub refused : too_long_or_broken bytes ≡ true → (words' ≡ words) × (output' ≡ output)
  pub decoded : too_long_or_broken bytes ≡ false
      → (words' ≡ words_of bytes ++ drop (length bytes / 4) words)
      × (output' ≡ output_after (eliminated (words_of bytes) 16384 16384 100000) output)

-- A word is no table, but it is decoded.
a_word : Responded (7 ∷ 1 ∷ 0 ∷ 0 ∷ []) (1 ∷ 2 ∷ []) (3 ∷ 4 ∷ []) (5 ∷ []) (263 ∷ 2 ∷ []) (0 ∷ 0 ∷ []) (5 ∷ [])
unfolding is_whole read_header read_table eliminated words_from words_of
a_word = record { cleared = refl; refused = λ e. absurd (true≢false (sym e)); decoded = λ e. (refl, refl) }
