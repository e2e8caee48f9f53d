-- How many records a list takes that stands in the first words of an output, told by its chains.
use Rattle.std.specs.Prelude.{true, false, List, ℕ, zero, suc, eqb, ltb, length}
use Rattle.tables.specs.Words.{word, records, follow, end, to, astray}

-- The last record of a chain, followed from the index i that record `at` holds; `at` itself where i leads nowhere.
unfoldable pub chain : List ℕ → ℕ → ℕ → ℕ → ℕ
chain w zero at i = at
chain w (suc fuel) at i = elim (follow w at i) [ end ↦ at | to j ↦ chain w fuel j (word w j 3) | astray ↦ at ]

-- The chain that word j of record i starts. A chain has fewer records than the table.
abbrev pub chain_last : List ℕ → ℕ → ℕ → ℕ
chain_last w i j = chain w (records w) i (word w i j)

-- The last term behind h, the last head of a chain of the system s; what `none` says where that chain has no head.
unfoldable pub behind : List ℕ → ℕ → ℕ → ℕ → ℕ
behind w s h none = elim (eqb h s) [ true ↦ none | false ↦ chain_last w h 0 ]

-- "For each system: its record, its T heads, its U heads, each head followed by its terms": what stands last.
abbrev pub system_last : List ℕ → ℕ → ℕ
system_last w s = behind w s (chain_last w s 1) (behind w s (chain_last w s 0) s)

-- What stands last in the list, where s is its last system, or 0 for none.
abbrev pub list_last : List ℕ → ℕ → ℕ
list_last w s = elim (eqb s 0) [ true ↦ 0 | false ↦ system_last w s ]

-- Word 2 of the header starts the chain of systems.
unfoldable pub extent : List ℕ → ℕ
extent w = elim (ltb (length w) 4) [ true ↦ 0 | false ↦ suc (list_last w (chain_last w 0 2)) ]
