-- The whole state of a run in the work area:
--
--     [control] [waiting branches, oldest .. newest] [open branch] [free] [systems, newest .. oldest] [records beyond 65,536]
--
-- The control record holds where the open branch starts and ends, where the systems start, and how many there are.
use Rattle.std.specs.Prelude.{◌≡◌, min, Bool, true, false, List, [], ◌∷◌, ◌++◌, ℕ, ◌+◌, ◌-◌, ◌≤◌, leb, length, get_or, take, drop, Result, Ok, Err, IsOk, IsErr}
use Rattle.residues.specs.Each.{Each}
use Rattle.records.specs.Records.{Rec, record_of, view}
use Rattle.stored.specs.Stored.{polys_records, Storable}
use Rattle.branches.specs.Words.{put_p, put_q_before, remove}
use Rattle.polynomials.specs.declared.Term.{Term as Packed}
use Rattle.tables.specs.declared.Reason.{Reason}
use Rattle.tables.specs.declared.Reason.TheVariants.{Room}

-- A branch, its polynomials as packed terms.
pub record Stored : Type 0 where
  pub P : List (List Packed)
  pub Q : List (List Packed)
  pub T : List (List Packed)

-- Its records: the counts and where the branch under it starts; then P, Q and T.
abbrev pub branch_records : ℕ → Stored → List Rec
branch_records under b = record_of (length b.P) (length b.Q) (length b.T) under ∷ (polys_records b.P ++ (polys_records b.Q ++ polys_records b.T))

-- The branches, the open one first and last in the records. Where the first of them starts; 0 for none.
abbrev pub stack : List Stored → List Rec × ℕ
stack [] = ([], 0)
stack (b ∷ bs) = ((stack bs).0 ++ branch_records (stack bs).1 b, 1 + length (stack bs).0)

-- A listed system is stored as its branch was: its P is empty and its Q is its U. The newest first.
unfoldable pub systems_records : List Stored → List Rec
systems_records [] = []
systems_records (s ∷ ss) = branch_records 0 s ++ systems_records ss

pub record Area : Type 0 where
  pub branches : List Stored
  pub systems : List Stored

-- The records in use: the control record, the branches and the systems.
unfoldable pub size : Area → ℕ
size a = 1 + (length (stack a.branches).0 + length (systems_records a.systems))

-- All polynomials are such as records can hold.
abbrev pub StorableBranch : Stored → Type 0
StorableBranch b = Each Storable b.P × Each Storable b.Q × Each Storable b.T

-- The records v hold the state a, in a work area with so many records.
pub record Held (v : List Rec) (most : ℕ) (a : Area) : Type 0 where
  pub free : List Rec
  pub beyond : List Rec
  pub is :
      v ≡ record_of (stack a.branches).1 (1 + length (stack a.branches).0) (1 + length (stack a.branches).0 + length free) (length a.systems)
      ∷ ((stack a.branches).0 ++ (free ++ (systems_records a.systems ++ beyond)))
  pub fits : 1 + length (stack a.branches).0 + length free + length (systems_records a.systems) ≡ most
  pub few : most ≤ 65536
  pub storable : Each StorableBranch a.branches × Each StorableBranch a.systems

-- The answer where there is room, and where there is none.
abbrev pub fitted : Bool → Result (Unit {0}) Reason
fitted true = Ok tt
fitted false = Err Room

-- An operation that may find no room for the state a: it is refused unless a fits, and leaves a then, and otherwise a₀.
pub record Leaves (most : ℕ) (a₀ a : Area) (r : Result (Unit {0}) Reason) (v : List Rec) : Type 0 where
  pub answer : r ≡ fitted (leb (size a) most)
  pub held : IsOk r → Held v most a
  pub otherwise : IsErr r → Held v most a₀

abbrev pub empty : Stored
empty = record { P = []; Q = []; T = [] }

abbrev pub has_branch : Area → Bool
has_branch a = elim a.branches [ [] ↦ false | b ∷ bs ↦ true ]

-- ── what becomes of the open branch ──
-- The state with another open branch.
abbrev pub with_open : Stored → List Stored → List Stored → Area
with_open b bs ss = record { branches = b ∷ bs; systems = ss }

abbrev pub put_into_p : List Packed → Stored → Stored
put_into_p f b = record { P = put_p f b.P; Q = b.Q; T = b.T }

abbrev pub put_into_q : ℕ → List Packed → Stored → Stored
put_into_q left f b = record { P = b.P; Q = put_q_before left f b.Q; T = b.T }

abbrev pub without_p : ℕ → Stored → Stored
without_p i b = record { P = remove i b.P; Q = b.Q; T = b.T }

abbrev pub without_q : ℕ → Stored → Stored
without_q i b = record { P = b.P; Q = remove i b.Q; T = b.T }

-- The member of P at place i moved to the front of T.
abbrev pub closed : ℕ → Stored → Stored
closed i b = record { P = remove i b.P; Q = b.Q; T = get_or b.P i [] ∷ b.T }

-- The branch set aside: P without its member at place i, then the initial, then the rest.
abbrev pub aside : ℕ → List Packed → List Packed → Stored → Stored
aside i initial rest b = record { P = put_p rest (put_p initial (remove i b.P)); Q = b.Q; T = b.T }

-- The branch that stays open at a split, made from the one set aside: the pivot f is put back at place i among the first n members of P, and
-- the initial goes to the end of Q.
abbrev pub kept_open : ℕ → ℕ → List Packed → List Packed → Stored → Stored
kept_open i n f initial c =
    record { P = take i c.P ++ (f ∷ take (n - i) (drop i c.P)); Q = c.Q ++ (initial ∷ []); T = c.T }

-- The state after a split.
abbrev pub split_area : ℕ → List Packed → List Packed → Stored → List Stored → List Stored → Area
split_area i initial rest b bs ss = record { branches = put_into_q 0 initial b ∷ (aside i initial rest b ∷ bs); systems = ss }

-- The state a if so many records hold it, and otherwise a₀.
abbrev pub fitting : ℕ → Area → Area → Area
fitting most a₀ a = elim (leb (size a) most) [ true ↦ a | false ↦ a₀ ]

-- The state in which a split that finds no room stops: the pivot is taken out of P; then, as far as there is room, the initial is put in and then the rest.
abbrev pub unfinished_split : ℕ → ℕ → List Packed → List Packed → Stored → List Stored → List Stored → Area
unfinished_split most i initial rest b bs ss =
    fitting most (fitting most (with_open (without_p i b) bs ss) (with_open (put_into_p initial (without_p i b)) bs ss))
    (with_open (aside i initial rest b) bs ss)

-- ── what a lent work area holds, before and after a call ──
-- How many of its records are used: 65,536 at most.
abbrev pub used : List (List ℕ) → ℕ
used w = min (length w) 65536

-- The records beyond those: every operation leaves them as they are.
abbrev pub beyond : List (List ℕ) → List Rec
beyond w = drop 65536 (view w)

-- Its records, each of four words, hold the state a.
abbrev pub HeldIn : List (List ℕ) → Area → Type 0
HeldIn w a = Held (view w) (used w) a

-- Some state with an open branch is held.
abbrev pub Opened : List (List ℕ) → Type 0
Opened w = (b : Stored) × (bs : List Stored) × (ss : List Stored) × HeldIn w (with_open b bs ss)

-- Φ, of the open branch, the waiting ones and the systems that the records hold.
abbrev pub WhenOpen : List (List ℕ) → (Stored → List Stored → List Stored → Type 0) → Type 0
WhenOpen w Φ = (b : Stored) (bs ss : List Stored) → HeldIn w (with_open b bs ss) → Φ b bs ss

-- The open branch b becomes g b; the waiting branches and the systems stay.
abbrev pub OpenBecomes : (Stored → Stored) → List (List ℕ) → List (List ℕ) → Type 0
OpenBecomes g w w' = WhenOpen w (λ b bs ss. Held (view w') (used w) (with_open (g b) bs ss))
