-- What the methods that read words say of them.
use Rattle.std.specs.Prelude.{◌≡◌, List, ℕ, ◌+◌, ◌*◌, ◌-◌, ◌≤◌, ◌<◌, length, take, drop, Option, Some, None}
use Rattle.decoding.specs.Words.{word_at, words_from}
use Rattle.input.specs.Window.{Window}

-- So many whole words of the buffer's bytes are not yet used.
abbrev pub Enough : ℕ → Window → Type 0
Enough n w = w.at + 4 * n ≤ w.end

-- A whole word is not yet used.
abbrev pub Left : Window → Type 0
Left = Enough 1

-- Behind n words more.
abbrev pub further : ℕ → Window → Window
further n w = record { bytes = w.bytes; at = w.at + 4 * n; end = w.end }

-- A word that was read stands in the buffer right before the bytes that are not yet used.
pub record Before (x : ℕ) (w : Window) : Type 0 where
  pub passed : 4 ≤ w.at
  pub ordered : w.at ≤ w.end
  pub within : w.end ≤ length w.bytes
  pub is : x ≡ word_at w.bytes (w.at - 4)

-- The words xs stood in the buffer, all that were asked for: none is skipped, and the buffer's bytes stay.
pub record Taken (w w' : Window) (xs : List ℕ) : Type 0 where
  pub after : w' ≡ further (length xs) w
  pub words : xs ≡ words_from (drop w.at w.bytes) 0 (length xs)

-- So many words stood in the buffer. They are the first of the slice, whose others stay; and so do the buffer's bytes.
pub record TakenFirst (n : ℕ) (w : Window) (xs : List ℕ) (r : Option ℕ) (w' : Window) (xs' : List ℕ) : Type 0 where
  pub first : r ≡ Some n
  pub after : w' ≡ further n w
  pub words : take n xs' ≡ words_from (drop w.at w.bytes) 0 n
  pub others : drop n xs' ≡ drop n xs

-- The count stood in the buffer: for one over the slice's length nothing more is taken, and the words of one within it are taken where they stood behind it.
pub record Counted (w : Window) (xs : List ℕ) (r : Option ℕ) (w' : Window) (xs' : List ℕ) : Type 0 where
  pub over : length xs < word_at w.bytes w.at → (r ≡ None) × (w' ≡ further 1 w) × (xs' ≡ xs)
  pub within : word_at w.bytes w.at ≤ length xs → Enough (word_at w.bytes w.at) (further 1 w)
      → TakenFirst (word_at w.bytes w.at) (further 1 w) xs r w' xs'
