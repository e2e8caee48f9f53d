-- What the gathering of a product by rows answers, in two buffers that may be too short for it.
use Rattle.std.specs.Prelude.{ℕ, ◌+◌, ◌*◌, ◌/◌, ◌<◌, min, ◌⊎◌, List, Result, Ok, Err}
use Rattle.polynomials.specs.Poly.{Poly}
use Rattle.polynomials.specs.Bounds.{standard, tested}
use Rattle.polynomials.specs.Working.{Forms}
use Rattle.polynomials.specs.declared.Term.{Term as Packed}
use Rattle.polynomials.specs.declared.Passed.TheVariants.{Terms}
use Rattle.gathering.specs.declared.Ungathered.{Ungathered}
use Rattle.gathering.specs.declared.Ungathered.TheVariants.{OverTerms, Short}

-- The terms that a buffer must have to hold what is gathered of factors of a and b terms: all term products, or half of them with two rows and 128 terms more.
abbrev pub room_for : ℕ → ℕ → ℕ
room_for a b = min (a * b) (a * b / 2 + 2 * b + 128)

-- In x the product f was formed or refused as its test says; too short is said only where a buffer, of m and of n terms, has fewer than `need`.
abbrev pub Gathers : Poly → ℕ → Result ℕ Ungathered → List Packed → ℕ → ℕ → Type 0
Gathers f need (Ok k) x m n = Forms (tested standard f) (Ok k) x
Gathers f need (Err OverTerms) x m n = Forms (tested standard f) (Err Terms) x
Gathers f need (Err Short) x m n = (m < need) ⊎ (n < need)
