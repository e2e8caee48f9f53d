-- What a clause sees of a `Text`.
use Rattle.std.specs.Prelude.{◌≡◌, List, ℕ, ◌+◌, ◌++◌, length}

-- The bytes so far, and how many more the buffer has room for.
pub record Written : Type 0 where
  pub bytes : List ℕ
  pub free : ℕ

abbrev pub capacity : Written → ℕ
capacity t = length t.bytes + t.free

-- The bytes s are added.
pub record Adds (s : List ℕ) (t t' : Written) : Type 0 where
  pub bytes : t'.bytes ≡ t.bytes ++ s
  pub free : t'.free + length s ≡ t.free
