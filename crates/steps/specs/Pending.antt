-- What is left of a step when its rule has been found.
use Rattle.std.specs.Prelude.{◌≡◌, List, [], map, reverse, ℕ, ◌+◌, ◌≤◌, ◌<◌, length, get_or, take, Result, Ok, Err}
use Rattle.polynomials.specs.Packed.{terms}
use Rattle.polynomials.specs.Division.{degree, leader, coefficient}
use Rattle.polynomials.specs.Working.{Holds}
use Rattle.rules.specs.Room.{Limits}
use Rattle.rules.specs.Rule.{rule_with}
use Rattle.rules.specs.Step.{Stepped, next, stopped, apply}
use Rattle.records.specs.Records.{Rec}
use Rattle.branches.specs.Area.{Stored, Area, Held, with_open}
use Rattle.representation.specs.Represent.{branch_of, system_of, state_of, chosen}
use Rattle.representation.specs.Ready.{Ready}
use Rattle.members.specs.Members.{count, HasMembers, rest_of_step}
use Rattle.pivots.specs.declared.Division.{Division}
use Rattle.steps.specs.declared.Prepared.{Prepared}
use Rattle.steps.specs.declared.Prepared.TheVariants.{Done, Members, Crowded}
use Rattle.tables.specs.declared.Reason.{Reason}
use Rattle.polynomials.specs.declared.Term.{Term as Packed}

-- The member of P at `place` is led by v(k+1).
abbrev pub Leads : ℕ → ℕ → Stored → Type 0
Leads k place b = (k < 8) × (place < length b.P) × (leader (terms (get_or b.P place [])) ≡ k + 1)

-- t is a pivot of degree d in v(k+1), and i its initial.
pub record Pivoted (p k d : ℕ) (t i : List Packed) : Type 0 where
  pub variable : k < 8
  pub some : 1 ≤ d
  pub pivot : Holds p t
  pub of_degree : degree k (terms t) ≡ d
  pub initial : Holds p i
  pub of_initial : terms i ≡ coefficient k d (terms t)

-- The step S comes to the division d of members of the branch b.
pub record Comes (l : Limits) (p : ℕ) (S : Stepped) (d : Division) (t i : List Packed) (v : List Rec) (most : ℕ) (b : Stored) (bs ss : List Stored) : Type 0 where
  pub held : Held v most (with_open b bs ss)
  pub ready : Ready p (with_open b bs ss)
  pub pivot_inside : d.pivot ≤ length t
  pub initial_inside : d.initial ≤ length i
  pub pivoted : Pivoted p d.k d.degree (take d.pivot t) (take d.initial i)
  pub has : HasMembers d.dividends (count d.dividends) b
  pub goes : S ≡ rest_of_step l p d.dividends (count d.dividends) d.k (terms (take d.pivot t)) b bs ss

-- The step S is that with the pivot of the branch b at `place`, which is longer than t.
pub record TooLong (l : Limits) (p : ℕ) (S : Stepped) (t : List Packed) (v : List Rec) (most : ℕ) (b : Stored) (bs ss : List Stored) : Type 0 where
  pub held : Held v most (with_open b bs ss)
  pub k : ℕ
  pub place : ℕ
  pub leads : Leads k place b
  pub goes : S ≡ apply l p (map branch_of bs) (reverse (map system_of ss)) (rule_with k (chosen b place) (branch_of b)) (branch_of b)
  pub longer : length t < length (get_or b.P place [])

-- What the code answers of the step S: it is done, it comes to a division, or it stops and leaves an open branch, over the waiting ones and the systems
-- that there were; or it was not begun, since the pivot is longer than t.
abbrev pub Prepares : Limits → ℕ → Stepped → Result Prepared Reason → List Packed → List Packed → List Rec → ℕ → List Stored → List Stored → Type 0
Prepares l p S (Ok Done) t i v most bs ss = (a : Area) × (S ≡ next (state_of a)) × Held v most a × Ready p a
Prepares l p S (Ok (Members d)) t i v most bs ss = (b : Stored) × Comes l p S d t i v most b bs ss
Prepares l p S (Err why) t i v most bs ss = (S ≡ stopped why) × ((b : Stored) × Held v most (with_open b bs ss))
Prepares l p S (Ok Crowded) t i v most bs ss = (b : Stored) × TooLong l p S t v most b bs ss
