-- What the functions that walk a table's chains say of it.
use Rattle.std.specs.Prelude.{◌≡◌, true, List, ℕ, ◌≤◌, Option, None, Some, Result, Ok, Err}
use Rattle.residues.specs.Prime.{is_modulus}
use Rattle.polynomials.specs.Packed.{bytes}
use Rattle.tables.specs.declared.Reason.TheVariants.{Index}
use Rattle.tables.specs.declared.Astray.{Astray}
use Rattle.tables.specs.declared.Refusal.{Refusal}
use Rattle.tables.specs.Words.{is_whole, Followed, end, to, astray}
use Rattle.tables.specs.Read.{Read, good, Before, first, after}
use Rattle.tables.specs.Solve.{refusal}

-- The header was accepted: whole records, a prime, at most eight variables.
pub record Readable (w : List ℕ) (p n : ℕ) : Type 0 where
  pub whole : is_whole w ≡ true
  pub prime : is_modulus p ≡ true
  pub some : 1 ≤ n
  pub few : n ≤ 8

-- A header that is not refused.
abbrev pub accepted : Read ℕ
accepted = good 0

-- Where an index leads: to no record, to one, or astray.
abbrev pub next : Followed → Result (Option ℕ) Astray
next end = Ok None
next (to i) = Ok (Some i)
next astray = Err record {}

-- The same of the index that record `at` holds, with its refusal.
abbrev pub next_from : ℕ → Followed → Result (Option ℕ) Refusal
next_from at end = Ok None
next_from at (to i) = Ok (Some i)
next_from at astray = Err (refusal Index at)

-- The term before, by its monomial, if there is one.
abbrev pub before : Option ℕ → Before
before None = first
before (Some m) = after (bytes 8 m)
