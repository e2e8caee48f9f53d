-- What a refusal of an elimination comes from. "A job that meets a limit stops with that limit's number, and no number comes without its
-- cause" (demand 1): the claims `refused_cause` and `cause_refuses` of proofs/Claims.antt, and of a step `stopped_cause` and `cause_stops`. Quoted
-- are document 01's "Eliminate" and "Room".
use Rattle.std.specs.Prelude.{◌≡◌, ◌⊎◌, List, [], ◌∷◌, ℕ, zero, suc, ◌+◌, ◌/◌, ◌≤◌, ◌<◌}
use Rattle.polynomials.specs.Poly.{Poly}
use Rattle.polynomials.specs.Bounds.{within, degree_passed, terms_passed}
use Rattle.tables.specs.Read.{good, Input, System, read_heads, read_header, read_table}
use Rattle.tables.specs.Read as tables
use Rattle.tables.specs.declared.Reason.{Reason}
use Rattle.tables.specs.declared.Reason.TheVariants.{Terms, Degree, Room, Steps, Output}
use Rattle.rules.specs.Branch.{Branch, Chosen}
use Rattle.rules.specs.Room.{Limits, State, polynomials_size, live}
use Rattle.rules.specs.Rule.{split, divide, close, rule_of}
use Rattle.rules.specs.Step.{next, stopped, remainder_by, split_open, split_aside, divided, closed, with_q, state, step}
use Rattle.rules.specs.Run.{first_state}
use Rattle.rules.specs.Written.{list_records}
use Rattle.rules.specs.Eliminate.{room_of, limits_of}

-- ── of a call ──
-- n whole steps lead from one state to another, each a step of the open branch.
module _ (l : Limits) (p : ℕ) where
  abbrev pub Leads : ℕ → State → State → Type 0
  Leads zero s s' = s ≡ s'
  Leads (suc n) s s' = (b : Branch) × (bs : List Branch) × (m : State) × (s.branches ≡ b ∷ bs) × (step l p b bs s.systems ≡ next m) × Leads n m s'

-- The table w is read, its first branch has room, and n whole steps lead from there to s.
pub record Reached (w : List ℕ) (work n : ℕ) (s : State) : Type 0 where
  pub input : Input
  pub accepted : read_table w ≡ good input
  pub has_room : live (first_state input) ≤ room_of work
  pub by_steps : Leads (limits_of work) input.modulus n (first_state input) s

-- The numbers that a step can stop with: "9, 10 and 11".
abbrev pub OfStep : Reason → Type 0
OfStep why = (why ≡ Terms) ⊎ ((why ≡ Degree) ⊎ (why ≡ Room))

-- The cause of a call's refusal, by the steps reported, the reason and the record. "The record is .. 0 for refusals outside reading."
pub data Cause (w : List ℕ) (work output limit : ℕ) : ℕ → Reason → ℕ → Type 0 where
  -- "The refusals of reading." "Steps are 0 for refusals before the run."
  in_reading : (why : Reason) (at : ℕ) → read_table w ≡ tables.refused why at → Cause w work output limit 0 why at
  -- "11 already while the first branch is put."
  in_first_branch : (t : Input) → read_table w ≡ good t → room_of work < live (first_state t) → Cause w work output limit 0 Room 0
  -- "Before each step 12 if the limit is reached and a branch is left."
  at_limit : (n : ℕ) (s : State) (b : Branch) (bs : List Branch) → Reached w work n s → n ≡ limit → s.branches ≡ b ∷ bs → Cause w work output limit n Steps 0
  -- "Inside a step 9, 10 and 11 as they are met."
  in_step : (n : ℕ) (s : State) (b : Branch) (bs : List Branch) (why : Reason) (r : Reached w work n s) → n < limit → s.branches ≡ b ∷ bs →
      step (limits_of work) r.input.modulus b bs s.systems ≡ stopped why → OfStep why → Cause w work output limit n why 0
  -- "At the end 13 if the output has fewer whole records than the list needs."
  at_end : (n : ℕ) (s : State) → Reached w work n s → n ≤ limit → s.branches ≡ [] → output / 4 < list_records s.systems → Cause w work output limit n Output 0

-- ── of a step ──
module _ (work p : ℕ) (waiting : List Branch) (listed : List System) where
  abbrev l : Limits
  l = limits_of work

  -- "Each member of Q in turn is replaced by its remainder by the pivot in vk", with v(k+1) for vk and pivot f: what is met at the first of
  -- the members left, or at a later one. The branch holds the new Q so far; the members still to be replaced are live.
  pub data MetReplacing (k : ℕ) (f : Poly) : List Poly → Branch → Reason → Type 0 where
    degree_met : (g : Poly) (gs : List Poly) (b : Branch) → remainder_by l p k f g ≡ degree_passed → MetReplacing k f (g ∷ gs) b Degree
    terms_met : (g : Poly) (gs : List Poly) (b : Branch) → remainder_by l p k f g ≡ terms_passed → MetReplacing k f (g ∷ gs) b Terms
    room_met : (g : Poly) (gs : List Poly) (b : Branch) (r : Poly) → remainder_by l p k f g ≡ within r →
        room_of work < polynomials_size gs + live (state l p waiting listed (with_q l p r b)) → MetReplacing k f (g ∷ gs) b Room
    met_later : (g : Poly) (gs : List Poly) (b : Branch) (why : Reason) (r : Poly) → remainder_by l p k f g ≡ within r →
        polynomials_size gs + live (state l p waiting listed (with_q l p r b)) ≤ room_of work →
        MetReplacing k f gs (with_q l p r b) why → MetReplacing k f (g ∷ gs) b why

  -- What a step of the open branch b meets, by its rule and the reason.
  pub data Met (b : Branch) : Reason → Type 0 where
    -- 3. The open branch with the initial in its Q, and the one set aside.
    splitting : (k : ℕ) (f : Chosen) → rule_of b ≡ split k f →
        room_of work < live (record { branches = split_open l p k f b ∷ (split_aside l p k f b ∷ waiting); systems = listed }) → Met b Room
    -- 4. The remainder of another polynomial of P by the pivot, and the branch with it put.
    dividing_degree : (k : ℕ) (f g : Chosen) → rule_of b ≡ divide k f g → remainder_by l p k f.poly g.poly ≡ degree_passed → Met b Degree
    dividing_terms : (k : ℕ) (f g : Chosen) → rule_of b ≡ divide k f g → remainder_by l p k f.poly g.poly ≡ terms_passed → Met b Terms
    dividing_room : (k : ℕ) (f g : Chosen) (r : Poly) → rule_of b ≡ divide k f g → remainder_by l p k f.poly g.poly ≡ within r →
        room_of work < live (state l p waiting listed (divided l p g r b)) → Met b Room
    -- 5. The remainders of the members of Q by the pivot.
    closing : (k : ℕ) (f : Chosen) (why : Reason) → rule_of b ≡ close k f → MetReplacing k f.poly b.Q (closed l p f b) why → Met b why
