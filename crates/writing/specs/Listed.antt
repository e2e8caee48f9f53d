-- The list that the systems in the work area make.
use Rattle.std.specs.Prelude.{◌≡◌, List, [], ◌++◌, map, reverse, ℕ, length}
use Rattle.tables.specs.Read.{Listing}
use Rattle.residues.specs.Each.{Each}
use Rattle.records.specs.Records.{Rec}
use Rattle.stored.specs.Stored.{Storable}
use Rattle.branches.specs.Area.{Stored, branch_records}
use Rattle.representation.specs.Represent.{system_of}

-- The newest system stands first in the work area and last in the list.
abbrev pub listing_of : ℕ → ℕ → List Stored → Listing
listing_of p n ss = record { modulus = p; variables = n; systems = reverse (map system_of ss) }

-- Record i and those behind it hold the branch s, whose P is empty.
pub record StoredAt (v : List Rec) (i : ℕ) (s : Stored) : Type 0 where
  pub before : List Rec
  pub behind : List Rec
  pub is : v ≡ before ++ (branch_records 0 s ++ behind)
  pub starts : length before ≡ i
  pub finished : s.P ≡ []
  pub storable_u : Each Storable s.Q
  pub storable_t : Each Storable s.T
