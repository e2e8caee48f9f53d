-- The numbers of a table's records, and its indices.
use Rattle.std.proofs.Common.{◌≡◌, List, ℕ, ◌<◌, arith, Option, Ok, Err}
use mir.Syntax.{w32}
use mir.Val.{Fits}
use Rattle.tables.specs.declared.Reason.TheVariants.{Index}
use Rattle.tables.specs.declared.Astray.{Astray}
use Rattle.tables.specs.Words.{records, Followed, end, to, astray}
use Rattle.tables.specs.Solve.{refusal}
use Rattle.tables.specs.Walk.{Readable, next, next_from}
use Rattle.tables.specs.laws.Chains.{whole_records}
use Rattle.words.specs.declared.Table.{Table}

-- The records are so few that a number of one fits a word.
pub fits_word : {w : List ℕ} {p n i : ℕ} → Readable w p n → i < records w → Fits w32 i
fits_word {w} r h = record { fits = omega (arith, (whole_records w r.whole).2) }

-- A table with a header has its record.
pub first_record : (t : Table) → 0 < records t.words.now
first_record t = omega (arith, (whole_records t.words.now t.readable.whole).1)

-- An index refused only gains the record that holds it.
pub from_ok : (at : ℕ) (f : Followed) {n : Option ℕ} → next f ≡ Ok n → next_from at f ≡ Ok n
from_ok at end e = cc
from_ok at (to j) e = cc
from_ok at astray e = cc

pub from_err : (at : ℕ) (f : Followed) {a : Astray} → next f ≡ Err a → next_from at f ≡ Err (refusal Index at)
from_err at end e = cc
from_err at (to j) e = cc
from_err at astray e = cc

pub ruleset index_followed = (from_ok, from_err)
