-- A reader at a record, and moved on.
use Rattle.std.specs.Prelude.{List, ℕ}
use Rattle.std.specs.Borrow.{Bor}
use Rattle.tables.specs.Words.{word}
use Rattle.readers.specs.declared.Reader.{Reader}

-- "A walk along a chain is one small reader: the table and the record number reached."
abbrev pub reader_at : Bor (List ℕ) → ℕ → Reader
reader_at t i = record { table = t; at = i }

-- Moved on by the index in word j of the record reached.
abbrev pub stepped : Reader → ℕ → Reader
stepped r j = reader_at r.table (word r.table.now r.at j)
