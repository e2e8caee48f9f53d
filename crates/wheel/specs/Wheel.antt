-- What a turn of the wheel of 30 tells of divisors.
use Rattle.std.specs.Prelude.{◌≡◌, ◌≢◌, Bool, ℕ, ◌+◌, ◌%◌, ◌≤◌, ◌<◌}
use Rattle.std.specs.Bool.{MatchBool}

-- Neither 2 nor 3 nor 5 divides e.
pub record Coprime30 (e : ℕ) : Type 0 where
  pub two : e % 2 ≢ 0
  pub three : e % 3 ≢ 0
  pub five : e % 5 ≢ 0

-- What a turn of the wheel from d tells of p: a number from d to d + 24 divides p, or none coprime to 30 from d up to d + 30 does.
abbrev pub Turn : ℕ → ℕ → Bool → Type 0
Turn p d r = MatchBool r ((e : ℕ) × (d ≤ e) × (e ≤ d + 24) × (p % e ≡ 0)) ((e : ℕ) → d ≤ e → e < d + 30 → Coprime30 e → p % e ≢ 0)
