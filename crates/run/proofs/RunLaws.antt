-- The run, one step at a time: what the code of a step leaves, against the run from where it began.
use mathlib.Core.Path.{◌≡◌, refl, sym, ap, subst, ◌∙◌}
use mathlib.Core.Bool.{true, false}
use mathlib.Core.List.{List, [], ◌∷◌, map, reverse}
use Prim.Native.Nat.{ℕ, suc, ◌-◌, ◌≤◌, ◌<◌}
use Rattle.std.specs.Prelude.{Some, None, Result, Ok, Err}
use native.Mathlib.Omega.{arith}
use lib.ListN.{length, take, length-reverse, length-map}
use Rattle.polynomials.specs.Packed.{terms}
use Rattle.tables.specs.declared.Reason.{Reason}
use Rattle.tables.specs.declared.Reason.TheVariants.{Steps}
use Rattle.rules.specs.Step.{Stepped, next, stopped, step}
use Rattle.rules.specs.Run.{Ended, finished, refused, after_step, run}
use Rattle.records.specs.Records.{view}
use Rattle.branches.specs.declared.Listed.{Listed}
use Rattle.branches.specs.Listed.{listed_of}
use Rattle.branches.specs.Area.{Stored, Area, Held, Opened, has_branch, with_open, HeldIn, used}
use Rattle.branches.proofs.ControlLaws.{count_is}
use Rattle.branches.proofs.LengthLaws.{held_by, same_used}
use Rattle.representation.specs.Represent.{branch_of, system_of, state_of}
use Rattle.members.specs.Members.{count}
use Rattle.pivots.specs.declared.Division.{Division}
use Rattle.steps.specs.declared.Prepared.{Prepared}
use Rattle.steps.specs.declared.Prepared.TheVariants.{Done, Members}
use Rattle.representation.specs.Ready.{Ready, limits_in}
use Rattle.steps.specs.Pending.{Comes, Pivoted, Prepares}
use Rattle.run.specs.declared.Outcome.{Outcome}
use Rattle.run.specs.declared.Outcome.TheVariants.{Systems, Refused}
use Rattle.run.specs.declared.Stretch.{Stretch}
use Rattle.run.specs.Stretch.{Ran, Stretches}
use Rattle.run.proofs.Invariants.{run_in, AtRun, AtMembers, run_ends, run_used, run_steps}
use Rattle.run.proofs.MembersLaws.{ComesTo, members_begin, members_end}
use Rattle.polynomials.specs.declared.Term.{Term as Packed}

-- The step of the open branch b in a work area with so many records.
abbrev pub step_in : ℕ → ℕ → Stored → List Stored → List Stored → Stepped
step_in most p b bs ss = step (limits_in most) p (branch_of b) (map branch_of bs) (reverse (map system_of ss))

-- The step from every state held by w leaves a state that v holds; or it stops.
abbrev pub GoesTo : ℕ → ℕ → List (List ℕ) → List (List ℕ) → Type 0
GoesTo most p w v =
    (b : Stored) (bs ss : List Stored) → Held (view w) most (with_open b bs ss) → Ready p (with_open b bs ss)
    → (a : Area) × (step_in most p b bs ss ≡ next (state_of a)) × Held (view v) most a × Ready p a

abbrev pub Stops : ℕ → ℕ → List (List ℕ) → Reason → Type 0
Stops most p w why =
    (b : Stored) (bs ss : List Stored) → Held (view w) most (with_open b bs ss) → Ready p (with_open b bs ss)
    → step_in most p b bs ss ≡ stopped why

-- w holds a state with an open branch, ready for a step.
abbrev pub SomeOpen : ℕ → List (List ℕ) → Type 0
SomeOpen p w = (b : Stored) × (bs : List Stored) × (ss : List Stored) × HeldIn w (with_open b bs ss) × Ready p (with_open b bs ss)

-- ── what was prepared ──
-- The answer q to the step from whatever state w held. t and i have the pivot and its initial, and v is the area then.
pub record Preparation (p : ℕ) (w : List (List ℕ)) (q : Result Prepared Reason) (t i : List Packed) (v : List (List ℕ)) : Type 0 where
  pub same : length v ≡ length w
  pub answers :
      (b : Stored) (bs ss : List Stored) → HeldIn w (with_open b bs ss) → Ready p (with_open b bs ss)
      → Prepares (limits_in (used w)) p (step_in (used w) p b bs ss) q t i (view v) (used w) bs ss

pub prepared_as : {p : ℕ} {w : List (List ℕ)} {q q' : Result Prepared Reason} {t i : List Packed} {v : List (List ℕ)} → length v ≡ length w
    → ((b : Stored) (bs ss : List Stored) → HeldIn w (with_open b bs ss) → Ready p (with_open b bs ss)
    → Prepares (limits_in (used w)) p (step_in (used w) p b bs ss) q t i (view v) (used w) bs ss) → q ≡ q' → Preparation p w q' t i v
prepared_as {p} {w} {t = t} {i} {v} same answers e = subst (λ q. Preparation p w q t i v) e (record { same = same; answers = answers })

-- The pivot of the division d is in t, and its initial in i.
pub record PivotIn (p : ℕ) (d : Division) (t i : List Packed) : Type 0 where
  pub pivot_inside : d.pivot ≤ length t
  pub initial_inside : d.initial ≤ length i
  pub pivoted : Pivoted p d.k d.degree (take d.pivot t) (take d.initial i)

module _ {p : ℕ} {w : List (List ℕ)} {t i : List Packed} {v : List (List ℕ)} where
  pub prepared_done : Preparation p w (Ok Done) t i v → GoesTo (used w) p w v
  prepared_done P = P.answers

  module _ (why : Reason) (P : Preparation p w (Err why) t i v) where
    pub prepared_stop : Stops (used w) p w why
    prepared_stop b bs ss H R = (P.answers b bs ss H R).0

    pub prepared_open : SomeOpen p w → Opened v
    prepared_open s =
        let x = (P.answers s.0 s.1 s.2 s.3 s.4).1 in
        (x.0, s.1, s.2, held_by _ _ w v (sym P.same) x.1)

  module _ {d : Division} (P : Preparation p w (Ok (Members d)) t i v) where
    pub prepared_pivot : SomeOpen p w → PivotIn p d t i
    prepared_pivot s =
        let C = (P.answers s.0 s.1 s.2 s.3 s.4).1 in
        record { pivot_inside = C.pivot_inside; initial_inside = C.initial_inside; pivoted = C.pivoted }

    -- The step, by the length of v.
    comes : (b : Stored) (bs ss : List Stored) → Held (view w) (used v) (with_open b bs ss) → Ready p (with_open b bs ss)
        → (b' : Stored) × Comes (limits_in (used v)) p (step_in (used v) p b bs ss) d t i (view v) (used v) b' bs ss
    comes =
        subst (λ (m : ℕ). (b : Stored) (bs ss : List Stored) → Held (view w) m (with_open b bs ss) → Ready p (with_open b bs ss)
        → (b' : Stored) × Comes (limits_in m) p (step_in m p b bs ss) d t i (view v) m b' bs ss) (sym (same_used v w P.same)) P.answers

    pub members_first : SomeOpen p w → AtMembers p d.k (terms (take d.pivot t)) d.dividends (count d.dividends) v v (count d.dividends)
    members_first s =
        let H = subst (λ (m : ℕ). Held (view w) m (with_open s.0 s.1 s.2)) (sym (same_used v w P.same)) s.3 in
        let c = comes s.0 s.1 s.2 H s.4 in
        let C = c.1 in
        members_begin p d.k (terms (take d.pivot t)) d.dividends (count d.dividends) v c.0 s.1 s.2 C.held C.ready C.has

    pub members_done : {u : List (List ℕ)} {left : ℕ} → AtMembers p d.k (terms (take d.pivot t)) d.dividends (count d.dividends) v u left → left ≡ 0
        → GoesTo (used w) p w u
    members_done {u} {left} A z =
        subst (λ (m : ℕ). GoesTo m p w u) (same_used v w P.same) (λ b bs ss H R.
        let c = comes b bs ss H R in
        let C = c.1 in
        let x = A.all c.0 bs ss C.held C.ready C.has in
        let ends = members_end (limits_in (used v)) p d.k (terms (take d.pivot t)) x.0 bs ss d.dividends left z in
        (with_open x.0 bs ss, C.goes ∙ sym x.4 ∙ ends, x.1, x.2))

    pub members_stop : (why : Reason) → ComesTo p d.k (terms (take d.pivot t)) d.dividends (count d.dividends) v (stopped why)
        → Stops (used w) p w why
    members_stop why A =
        subst (λ (m : ℕ). Stops m p w why) (same_used v w P.same) (λ b bs ss H R.
        let c = comes b bs ss H R in
        let C = c.1 in
        C.goes ∙ A c.0 bs ss C.held C.ready C.has)

-- ── the run ──
abbrev area : List Stored → List Stored → Area
area cs ss = record { branches = cs; systems = ss }

opened : (a : Area) → has_branch a ≡ true → (b : Stored) × (bs : List Stored) × (a ≡ with_open b bs a.systems)
opened a e = go a.branches e
  where
    go : (cs : List Stored) → has_branch (area cs a.systems) ≡ true
        → (b : Stored) × (bs : List Stored) × (area cs a.systems ≡ with_open b bs a.systems)
    go [] e = absurd (let z : ◌≡◌ {A = ℕ} 0 1 = cc in omega arith)
    go (b ∷ bs) e = (b, bs, refl)

closed : (a : Area) → has_branch a ≡ false → a ≡ area [] a.systems
closed a e = go a.branches e
  where
    go : (cs : List Stored) → has_branch (area cs a.systems) ≡ false → area cs a.systems ≡ area [] a.systems
    go [] e = refl
    go (b ∷ bs) e = absurd (let z : ◌≡◌ {A = ℕ} 0 1 = cc in omega arith)

-- No branch of a state held by w is open; or one is.
abbrev pub NoneIsOpen : List (List ℕ) → Type 0
NoneIsOpen w = (a : Area) → HeldIn w a → has_branch a ≡ false

abbrev pub AllOpen : List (List ℕ) → Type 0
AllOpen w = (a : Area) → HeldIn w a → has_branch a ≡ true

-- The outcome o, so many steps being done; or a pause.
abbrev pub ended : ℕ → Outcome → Stretch
ended n o = record { steps = n; outcome = Some o }

abbrev pub paused : ℕ → Stretch
paused n = record { steps = n; outcome = None }

-- q is the stretch of the run from every state that w held, `from` steps being done; v is the area then.
abbrev pub Answers : ℕ → ℕ → ℕ → List (List ℕ) → Stretch → List (List ℕ) → Type 0
Answers p limit from w q v =
    (a : Area) → HeldIn w a → Ready p a
    → Stretches (run (limits_in (used w)) p (limit - from) from (state_of a)) p limit q (view v) (used w)

module _ {p limit from : ℕ} {w₀ w : List (List ℕ)} {steps : ℕ} (A : AtRun p limit from w₀ w steps) where
  held_now : {a : Area} → Held (view w) (used w₀) a → HeldIn w a
  held_now H = held_by _ _ w₀ w (sym A.same) H

  pub run_holds_some : (a : Area) × HeldIn w a
  run_holds_some = let s = A.some in (s.0, held_now s.1)

  pub run_paused : (v : List (List ℕ)) → v ≡ w → Answers p limit from w₀ (paused steps) v
  run_paused v e = subst (Answers p limit from w₀ (paused steps)) (sym e) (λ a₀ H₀ R₀. (A.within, A.all a₀ H₀ R₀))

  -- ── no branch is left ──
  module _ (none : NoneIsOpen w) where
    pub run_finished : (l : Listed) → ((a : Area) → HeldIn w a → l ≡ listed_of (used w) a) → Answers p limit from w₀ (ended steps (Systems l.count)) w
    run_finished l told a₀ H₀ R₀ =
        let s = A.all a₀ H₀ R₀ in
        let H = held_now s.1 in
        let c = closed s.0 (none s.0 H) in
        let ss = s.0.systems in
        let ends : run_in (used w₀) p (limit - from) from a₀ ≡ finished steps (reverse (map system_of ss)) =
        sym s.3 ∙ ap (run_in (used w₀) p (limit - steps) steps) c ∙ run_ends (limits_in (used w₀)) p steps (limit - steps) ss in
        let count : l.count ≡ length (reverse (map system_of ss)) =
        count_is H (told s.0 H) ∙ sym (length-reverse (map system_of ss) ∙ length-map ss system_of) in
        subst (λ (E : Ended). Ran E p steps (Systems l.count) (view w) (used w₀)) (sym ends) (
        record {
          steps = refl;
          outcome = ap Systems count;
          left = (ss, subst (Held (view w) (used w₀)) c s.1, subst (Ready p) c s.2, refl);
        }
        )

  -- ── a branch is left ──
  module _ (some : AllOpen w) where
    -- Whatever state the run began with, it comes to one with an open branch.
    run_open : (a₀ : Area) → HeldIn w₀ a₀ → Ready p a₀
        → (b : Stored) × (bs : List Stored) × (ss : List Stored) × Held (view w) (used w₀) (with_open b bs ss) × Ready p (with_open b bs ss)
        × (run_in (used w₀) p (limit - steps) steps (with_open b bs ss) ≡ run_in (used w₀) p (limit - from) from a₀)
    run_open a₀ H₀ R₀ =
        let s = A.all a₀ H₀ R₀ in
        let o = opened s.0 (some s.0 (held_now s.1)) in (
          o.0,
          o.1,
          s.0.systems,
          subst (Held (view w) (used w₀)) o.2 s.1,
          subst (Ready p) o.2 s.2,
          subst (λ (a : Area). run_in (used w₀) p (limit - steps) steps a ≡ run_in (used w₀) p (limit - from) from a₀) o.2 s.3,
        )

    pub run_open_some : SomeOpen p w
    run_open_some =
        let s = A.some in
        let h = held_now s.1 in
        let o = opened s.0 (some s.0 h) in
        (o.0, o.1, s.0.systems, subst (HeldIn w) o.2 h, subst (Ready p) o.2 s.2)

    -- The run is refused from every state that it may have begun with, and v holds one with an open branch.
    refused_all : (why : Reason) (v : List (List ℕ)) → length v ≡ length w₀ → Opened v
        → ((a₀ : Area) → HeldIn w₀ a₀ → Ready p a₀ → refused steps why ≡ run_in (used w₀) p (limit - from) from a₀)
        → Answers p limit from w₀ (ended steps (Refused why 0)) v
    refused_all why v same o ends a₀ H₀ R₀ =
        let held = held_by _ _ v w₀ same o.3 in
        subst (λ (E : Ended). Ran E p steps (Refused why 0) (view v) (used w₀)) (ends a₀ H₀ R₀)
        (record { steps = refl; outcome = refl; left = (o.0, o.1, o.2, held) })

    pub run_no_steps : limit ≤ steps → Answers p limit from w₀ (ended steps (Refused Steps 0)) w
    run_no_steps h = refused_all Steps w A.same (let s = run_open_some in (s.0, s.1, s.2, s.3)) (λ a₀ H₀ R₀.
        let s = run_open a₀ H₀ R₀ in
        let z : limit - steps ≡ 0 = omega (arith, h) in
        let spent = run_used (limits_in (used w₀)) p steps s.0 s.1 s.2 in
        sym (ap (λ (n : ℕ). run_in (used w₀) p n steps (with_open s.0 s.1 s.2)) z ∙ spent) ∙ s.5)

    module _ (more : steps < limit) where
      -- The run by what its next step comes to.
      abbrev after : Stepped → Ended
      after = after_step (run (limits_in (used w₀)) p (limit - suc steps) (suc steps)) steps

      by_step : (b : Stored) (bs ss : List Stored)
          → run_in (used w₀) p (limit - steps) steps (with_open b bs ss) ≡ after (step_in (used w₀) p b bs ss)
      by_step b bs ss =
          let z : limit - steps ≡ suc (limit - suc steps) = omega (arith, more) in
          ap (λ (n : ℕ). run_in (used w₀) p n steps (with_open b bs ss)) z
          ∙ run_steps (limits_in (used w₀)) p steps b bs ss (limit - suc steps)

      pub run_stopped : (why : Reason) (v : List (List ℕ)) → length v ≡ length w₀ → Opened v → Stops (used w) p w why
          → Answers p limit from w₀ (ended steps (Refused why 0)) v
      run_stopped why v same o S = refused_all why v same o (λ a₀ H₀ R₀.
          let s = run_open a₀ H₀ R₀ in
          let e = subst (λ (m : ℕ). Stops m p w why) (same_used w w₀ A.same) S s.0 s.1 s.2 s.3 s.4 in
          sym (by_step s.0 s.1 s.2 ∙ ap after e) ∙ s.5)

      pub run_goes_on : (v : List (List ℕ)) → length v ≡ length w → GoesTo (used w) p w v → AtRun p limit from w₀ v (suc steps)
      run_goes_on v kept G = record {
        same = kept ∙ A.same;
        within = omega (arith, more);
        some =
            let s = run_open_some in
            let x = G s.0 s.1 s.2 s.3 s.4 in
            (x.0, subst (λ (m : ℕ). Held (view v) m x.0) (same_used w w₀ A.same) x.2, x.3);
        all = λ a₀ H₀ R₀.
            let s = run_open a₀ H₀ R₀ in
            let x = subst (λ (m : ℕ). GoesTo m p w v) (same_used w w₀ A.same) G s.0 s.1 s.2 s.3 s.4 in
            (x.0, x.2, x.3, sym (by_step s.0 s.1 s.2 ∙ ap after x.1) ∙ s.5);
      }
