-- The lists that can be written as a table.
use Rattle.std.specs.Prelude.{◌≤◌}
use Rattle.tables.specs.Read.{Listing}
use Rattle.tables.specs.Admissible.{AdmissibleListing}
use Rattle.rules.specs.Written.{list_records}

-- A list whose words are a table's: a table can hold it, and its records are not too many.
pub record Writable (l : Listing) : Type 0 where
  pub admissible : AdmissibleListing l
  pub few_records : list_records l.systems ≤ 65536
