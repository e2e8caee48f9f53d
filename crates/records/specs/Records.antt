-- The work area as a list of records of four words. This file alone says which record the four words are.
use Rattle.std.specs.Prelude.{◌≡◌, refl, ℕ, ◌*◌, ◌/◌, List, [], ◌∷◌, map, min, length, get_or, drop}
use Rattle.std.specs.Simd.{first_chunks}
use Rattle.std.proofs.Math.Seq.{paste}

-- A record's four words.
pub record Rec : Type 0 where
  pub w0 : ℕ
  pub w1 : ℕ
  pub w2 : ℕ
  pub w3 : ℕ

-- The record of these words.
abbrev pub record_of : ℕ → ℕ → ℕ → ℕ → Rec
record_of a b c d = record { w0 = a; w1 = b; w2 = c; w3 = d }

-- Four zeros: what `get_or` finds past the end.
abbrev pub zero_record : Rec
zero_record = record_of 0 0 0 0

-- The record that four words make.
abbrev pub record_at : List ℕ → Rec
record_at r = record_of (get_or r 0 0) (get_or r 1 0) (get_or r 2 0) (get_or r 3 0)

-- The records of a work area.
abbrev pub view : List (List ℕ) → List Rec
view = map record_at

-- Words in rows of four, as far as they make whole ones.
abbrev pub rows : List ℕ → List (List ℕ)
rows w = first_chunks 4 (length w / 4) w

-- The records that a work area of these words has: "its words divided by 4, rounded down, at most 65,536".
abbrev pub capacity : List ℕ → ℕ
capacity w = min (length w / 4) 65536

-- What lies behind them: whole records beyond 65,536, and at most three words.
abbrev pub outside : List ℕ → List Rec × List ℕ
outside w = (view (drop (capacity w) (rows w)), drop (4 * (length w / 4)) w)

-- Behind two records, the ninth word.
nine_words : outside (1 ∷ 2 ∷ 3 ∷ 4 ∷ 5 ∷ 6 ∷ 7 ∷ 8 ∷ 9 ∷ []) ≡ ([], 9 ∷ [])
nine_words = refl

-- The n records from `from` on, copied over those from `to` on.
abbrev pub moved : List Rec → ℕ → ℕ → ℕ → List Rec
moved v from n to = paste v to (drop from v) n
