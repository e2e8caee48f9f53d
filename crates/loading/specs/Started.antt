-- The first branch, put in the work area polynomial by polynomial.
use Rattle.std.specs.Prelude.{◌≡◌, refl, ◌≢◌, List, [], ◌∷◌, ℕ, suc, ◌+◌, ◌-◌, ◌≤◌, ◌<◌, leb, take, length, Result, Ok, Err, IsOk, IsErr}
use Rattle.residues.specs.Each.{Each}
use Rattle.polynomials.specs.Poly.{Poly, monic}
use Rattle.polynomials.specs.Packed.{terms}
use Rattle.tables.specs.Read.{Input}
use Rattle.tables.specs.declared.Reason.{Reason}
use Rattle.tables.specs.declared.Reason.TheVariants.{Room}
use Rattle.rules.specs.Branch.{Branch, is_zero, is_one, member, put_p, put_q, put_all}
use Rattle.rules.specs.Room.{branch_size}
use Rattle.rules.specs.Step.{Stepped, next, stopped}
use Rattle.rules.specs.Run.{first_branch}
use Rattle.records.specs.Records.{Rec}
use Rattle.branches.specs.Area.{Stored, Area, Held, fitted, with_open, put_into_p, put_into_q}
use Rattle.representation.specs.Represent.{Sound, BranchSound, branch_of, state_of, Monic, AllMonic}
use Rattle.representation.specs.Ready.{Ready}
use Rattle.loading.specs.declared.Target.{Target}
use Rattle.loading.specs.declared.Target.TheVariants.{P, Q}
use Rattle.polynomials.specs.declared.Term.{Term as Packed}

-- The first m terms hold the monic polynomial of f.
pub record Loaded (p : ℕ) (f : Poly) (m : ℕ) (s : List Packed) : Type 0 where
  pub within : m ≤ length s
  pub sound : Sound p (take m s)
  pub holds : terms (take m s) ≡ monic p f
  pub monic : Monic (terms (take m s))

-- f put into the open branch.
abbrev pub put_into : Target → List Packed → Stored → Stored
put_into P f b = put_into_p f b
put_into Q f b = put_into_q 0 f b

-- The polynomials put one after the other.
abbrev pub put_heads : Target → ℕ → List Poly → Branch → Branch
put_heads P p fs b = record { P = put_all (put_p p) fs b.P; Q = b.Q; T = b.T }
put_heads Q p fs b = record { P = b.P; Q = put_all (put_q p) fs b.Q; T = b.T }

-- The work area holds the branch c, and nothing else.
pub record Alone (p most : ℕ) (c : Branch) (v : List Rec) : Type 0 where
  pub stored : Stored
  pub held : Held v most (with_open stored [] [])
  pub sound : BranchSound p stored
  pub monic : AllMonic stored.P
  pub nonzero : Each (λ f. f ≢ []) stored.P
  pub is : branch_of stored ≡ c

-- The polynomials fs, put into the branch c one after the other: refused unless there is room for all of them and the control record.
-- If there is, the work area holds the branch with all, and otherwise with the first j, those before one that has no room.
pub record Filled (p most : ℕ) (target : Target) (fs : List Poly) (c : Branch) (r : Result (Unit {0}) Reason) (v : List Rec) : Type 0 where
  pub answer : r ≡ fitted (leb (1 + branch_size (put_heads target p fs c)) most)
  pub alone : IsOk r → Alone p most (put_heads target p fs c) v
  pub otherwise : IsErr r → (j : ℕ) × (j < length fs) × (most < 1 + branch_size (put_heads target p (take (suc j) fs) c)) × Alone p most (put_heads target p (take j fs) c) v

-- The branch of a table's first k polynomials, those of P before those of Q.
abbrev pub first_put : Input → ℕ → Branch
first_put t k = first_branch (record { modulus = t.modulus; variables = t.variables; P = take k t.P; Q = take (k - length t.P) t.Q })

-- Of one polynomial of P and two of Q, all zero, the first two: zero is not put into P.
three_zeros : first_put (record { modulus = 7; variables = 1; P = [] ∷ []; Q = [] ∷ ([] ∷ []) }) 2 ≡ record { P = []; Q = [] ∷ []; T = [] }
unfolding first_branch put_all put_p put_q monic is_zero is_one member
three_zeros = refl

-- Refused unless the run starts. If it does, there are at least two records, and the work area holds its first state; otherwise, given
-- two records, the branch of the table's first k polynomials, those before one that has no room.
abbrev pub Started : Input → Stepped → ℕ → Result (Unit {0}) Reason → List Rec → Type 0
Started t (next s) most r v = (r ≡ Ok tt) × (2 ≤ most) × ((a : Area) × Held v most a × Ready t.modulus a × (state_of a ≡ s))
Started t (stopped why) most r v =
    (r ≡ Err why) × (why ≡ Room) × (2 ≤ most → (k : ℕ) × (most < 1 + branch_size (first_put t (suc k))) × Alone t.modulus most (first_put t k) v)
