-- The systems of a table that is a list.
use Rattle.std.specs.Prelude.{◌≡◌, List, ℕ}
use Rattle.tables.specs.Words.{word, records}
use Rattle.tables.specs.Read.{System, good, read_system, read_systems}
use Rattle.words.specs.declared.Table.{Table}

-- s is the system in record i.
abbrev pub IsSystemAt : Table → ℕ → System → Type 0
IsSystemAt t i s = read_system t.words.now t.modulus t.variables i ≡ good s

-- ss are the systems on the table's chain.
abbrev pub AreSystemsOf : Table → List System → Type 0
AreSystemsOf t ss = read_systems t.words.now t.modulus t.variables (records t.words.now) 0 (word t.words.now 0 2) ≡ good ss
