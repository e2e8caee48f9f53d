-- What a clause sees of `Words`.
use Rattle.std.specs.Prelude.{List, ℕ}

-- The bytes of the buffer. Those that are read and not yet used are from `at` up to `end`.
pub record Window : Type 0 where
  pub bytes : List ℕ
  pub at : ℕ
  pub end : ℕ
