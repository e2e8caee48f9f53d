-- Lines of numbers in decimal, as bytes.
use Rattle.std.specs.Prelude.{◌≡◌, refl, List, [], ◌∷◌, ◌++◌, ℕ, ◌+◌, ◌*◌, ◌≤◌, length}
use Rattle.std.specs.Fmt.{decimal, digits}
use Rattle.lines.specs.Written.{Written, Adds}

-- The numbers after the first of a line, each behind a blank, and the line's end.
unfoldable pub rest_text : List ℕ → List ℕ
rest_text [] = 10 ∷ []
rest_text (n ∷ ns) = 32 ∷ (decimal n ++ rest_text ns)

-- A line: the numbers, separated by single blanks.
unfoldable pub line_text : List ℕ → List ℕ
line_text [] = 10 ∷ []
line_text (n ∷ ns) = decimal n ++ rest_text ns

zero_and_ten : line_text (0 ∷ 10 ∷ []) ≡ 48 ∷ 32 ∷ 49 ∷ 48 ∷ 10 ∷ []
unfolding line_text rest_text digits
zero_and_ten = refl

-- A line was added to a text: how long it may be, and its bytes.
pub record LineAdded (numbers : List ℕ) (t t' : Written) : Type 0 where
  pub near : length t'.bytes ≤ length t.bytes + 21 * length numbers + 1
  pub is : Adds (line_text numbers) t t'
