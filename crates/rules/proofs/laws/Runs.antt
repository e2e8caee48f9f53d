-- How a run ends: after whole steps that lead from the first state to one where no branch is left, the limit is reached or a step stops.
-- From this: what every step keeps holds at the end, and a run takes no more steps than its limit.
use Rattle.std.specs.Prelude.{◌≡◌, refl, Bool}
use Rattle.std.proofs.Common.{sym, ◌∙◌, subst, arith}
use Rattle.std.proofs.Math.Path.{ap}
use Rattle.std.proofs.Math.Bool.{true, false}
use mathlib.Core.List.{List, [], ◌∷◌}
use Prim.Native.Nat.{ℕ, zero, suc, ◌+◌, ◌≤◌, ◌<◌}
use Rattle.polynomials.specs.Bounds.{over}
use Rattle.tables.specs.Read.{System, Input}
use Rattle.tables.specs.declared.Reason.{Reason}
use Rattle.tables.specs.declared.Reason.TheVariants.{Room, Steps}
use Rattle.rules.specs.Branch.{Branch}
use Rattle.rules.specs.Room.{Limits, State, live}
use Rattle.rules.specs.Step.{Stepped, next, stopped, step}
use Rattle.rules.specs.Run.{Ended, finished, refused, run_steps, after_step, run, start, run_of, first_state}
use Rattle.rules.specs.Cause.{Leads}
use Rattle.rules.proofs.laws.Taken.{within_room_is, Taken, step_taken}

-- ── a run from a state ──
module _ (l : Limits) (p n : ℕ) (s : State) where
  by_branches : (left : ℕ) (bs : List Branch) → s.branches ≡ bs → run l p left n s ≡ run l p left n (record { branches = bs; systems = s.systems })
  by_branches left bs e = ap (λ (bs : List Branch). run l p left n (record { branches = bs; systems = s.systems })) e

  -- With no branch left the run is finished, whatever the steps left.
  pub run_none : (left : ℕ) → s.branches ≡ [] → run l p left n s ≡ finished n s.systems
  unfolding run
  run_none zero e = by_branches zero [] e
  run_none (suc left) e = by_branches (suc left) [] e

  module _ (b : Branch) (bs : List Branch) (e : s.branches ≡ b ∷ bs) where
    pub run_out : run l p 0 n s ≡ refused n Steps
    unfolding run
    run_out = by_branches 0 (b ∷ bs) e

    pub run_next : (left : ℕ) (x : Stepped) → step l p b bs s.systems ≡ x → run l p (suc left) n s ≡ after_step (run l p left (suc n)) n x
    unfolding run
    run_next left x f = by_branches (suc left) (b ∷ bs) e ∙ ap (after_step (run l p left (suc n)) n) f

-- After the steps that lead to it, the run goes on from the state reached.
run_on : (l : Limits) (p k left n : ℕ) (s s' : State) → Leads l p k s s' → run l p (k + left) n s ≡ run l p left (k + n) s'
run_on l p zero left n s s' h =
    ap (λ (m : ℕ). run l p m n s) (omega arith) ∙ ap (run l p left n) h ∙ ap (λ (m : ℕ). run l p left m s') (omega arith)
run_on l p (suc k) left n s s' h =
    ap (λ (m : ℕ). run l p m n s) (omega arith)
    ∙ run_next l p n s h.0 h.1 h.3 (k + left) (next h.2) h.4
    ∙ run_on l p k left (suc n) h.2 s' h.5
    ∙ ap (λ (m : ℕ). run l p left m s') (omega arith)

-- ── how a run ends ──
module _ (l : Limits) (p : ℕ) where
  -- One step more.
  leads_on : (n : ℕ) (s₀ s : State) (b : Branch) (bs : List Branch) (m : State) → Leads l p n s₀ s → s.branches ≡ b ∷ bs →
      step l p b bs s.systems ≡ next m → Leads l p (suc n) s₀ m
  leads_on zero s₀ s b bs m h e f =
      (b, bs, m, ap (λ (s : State). s.branches) h ∙ e, ap (λ (s : State). step l p b bs s.systems) h ∙ f, refl)
  leads_on (suc n) s₀ s b bs m h e f = (h.0, h.1, h.2, h.3, h.4, leads_on n h.2 s b bs m h.5 e f)

  -- What holds of each way to end, after whole steps from s₀, holds of the run.
  module _ {ℓ} (limit : ℕ) (s₀ : State) (C : Ended → Type ℓ)
      (at_limit : (n : ℕ) (s : State) (b : Branch) (bs : List Branch) → Leads l p n s₀ s → n ≡ limit → s.branches ≡ b ∷ bs → C (refused n Steps))
      (in_step : (n : ℕ) (s : State) (b : Branch) (bs : List Branch) (why : Reason) → Leads l p n s₀ s → n < limit → s.branches ≡ b ∷ bs →
      step l p b bs s.systems ≡ stopped why → C (refused n why))
      (at_end : (n : ℕ) (s : State) → Leads l p n s₀ s → n ≤ limit → s.branches ≡ [] → C (finished n s.systems)) where
    no_branch_ends : (left n : ℕ) (s : State) → Leads l p n s₀ s → n + left ≡ limit → s.branches ≡ [] → C (run l p left n s)
    no_branch_ends left n s h q e = subst C (sym (run_none l p n s left e)) (at_end n s h (omega (arith, q)) e)

    run_ends : (left n : ℕ) (s : State) → Leads l p n s₀ s → n + left ≡ limit → C (run l p left n s)
    run_ends zero n s h q = go s.branches refl
      where
        go : (bs : List Branch) → s.branches ≡ bs → C (run l p zero n s)
        go [] e = no_branch_ends zero n s h q e
        go (b ∷ bs) e = subst C (sym (run_out l p n s b bs e)) (at_limit n s b bs h (omega arith) e)
    run_ends (suc left) n s h q = go (run_ends left (suc n)) s.branches refl
      where
        onward : ((m : State) → Leads l p (suc n) s₀ m → suc n + left ≡ limit → C (run l p left (suc n) m)) →
            (b : Branch) (bs : List Branch) → s.branches ≡ b ∷ bs → (x : Stepped) → step l p b bs s.systems ≡ x → C (after_step (run l p left (suc n)) n x)
        onward ih b bs e (next m) f = ih m (leads_on n s₀ s b bs m h e f) (omega arith)
        onward ih b bs e (stopped why) f = in_step n s b bs why h (omega arith) e f

        go : ((m : State) → Leads l p (suc n) s₀ m → suc n + left ≡ limit → C (run l p left (suc n) m)) → (bs : List Branch) → s.branches ≡ bs → C (run l p (suc left) n s)
        go ih [] e = no_branch_ends (suc left) n s h q e
        go ih (b ∷ bs) e =
            let x = step l p b bs s.systems in
            subst C (sym (run_next l p n s b bs e left x refl)) (onward ih b bs e x refl)

module _ (l : Limits) (t : Input) where
  -- Whether the first branch is over the room.
  abbrev pub OverFirst : Bool → Type 0
  OverFirst c = over l.of_room (live (first_state t)) ≡ c

  module _ (limit : ℕ) where
    pub run_of_over : OverFirst true → run_of l limit t ≡ refused 0 Room
    unfolding run_of start
    run_of_over o = ap (after_step (run l t.modulus limit 0) 0) (within_room_is l (first_state t) true o)

    run_of_first : OverFirst false → run_of l limit t ≡ run l t.modulus limit 0 (first_state t)
    unfolding run_of start
    run_of_first o = ap (after_step (run l t.modulus limit 0) 0) (within_room_is l (first_state t) false o)

    -- The run goes on from a state that whole steps lead to.
    pub run_of_on : OverFirst false → (n left : ℕ) (s : State) → Leads l t.modulus n (first_state t) s → n + left ≡ limit → run_of l limit t ≡ run l t.modulus left n s
    run_of_on o n left s h enough =
        run_of_first o
        ∙ ap (λ (m : ℕ). run l t.modulus m 0 (first_state t)) (sym enough)
        ∙ run_on l t.modulus n left 0 (first_state t) s h
        ∙ ap (λ (m : ℕ). run l t.modulus left m s) (omega arith)

  module _ {ℓ} (limit : ℕ) (C : Ended → Type ℓ)
      (in_first_branch : OverFirst true → C (refused 0 Room))
      (at_limit : (n : ℕ) (s : State) (b : Branch) (bs : List Branch) → OverFirst false → Leads l t.modulus n (first_state t) s → n ≡ limit →
      s.branches ≡ b ∷ bs → C (refused n Steps))
      (in_step : (n : ℕ) (s : State) (b : Branch) (bs : List Branch) (why : Reason) → OverFirst false → Leads l t.modulus n (first_state t) s → n < limit →
      s.branches ≡ b ∷ bs → step l t.modulus b bs s.systems ≡ stopped why → C (refused n why))
      (at_end : (n : ℕ) (s : State) → OverFirst false → Leads l t.modulus n (first_state t) s → n ≤ limit → s.branches ≡ [] → C (finished n s.systems)) where
    pub run_of_ends : C (run_of l limit t)
    run_of_ends = go (over l.of_room (live (first_state t))) refl
      where
        go : (c : Bool) → OverFirst c → C (run_of l limit t)
        go true o = subst C (sym (run_of_over limit o)) (in_first_branch o)
        go false o =
            subst C (sym (run_of_first limit o))
            (run_ends l t.modulus limit (first_state t) C (λ n s b bs. at_limit n s b bs o) (λ n s b bs why. in_step n s b bs why o) (λ n s. at_end n s o)
            limit 0 (first_state t) refl (omega arith))

-- ── what every step keeps ──
module _ {ℓ} (l : Limits) (p : ℕ) (Inv : State → Type ℓ)
    (keeps : (b : Branch) (waiting : List Branch) (listed : List System) (s : State) → step l p b waiting listed ≡ next s →
    Inv (record { branches = b ∷ waiting; systems = listed }) → Inv s) where
  leads_keeps : (n : ℕ) (s s' : State) → Leads l p n s s' → Inv s → Inv s'
  leads_keeps zero s s' h i = subst Inv h i
  leads_keeps (suc n) s s' h i =
      leads_keeps n h.2 s' h.5 (keeps h.0 h.1 s.systems h.2 h.4 (subst Inv (λ j. record { branches = h.3 j; systems = s.systems }) i))

module _ {ℓ} (l : Limits) (t : Input) (Inv : State → Type ℓ) where
  pub run_of_steps_keep : ((b : Branch) (waiting : List Branch) (listed : List System) (s : State) → step l t.modulus b waiting listed ≡ next s →
      Inv (record { branches = b ∷ waiting; systems = listed }) → Inv s) →
      (limit n : ℕ) (ss : List System) → run_of l limit t ≡ finished n ss → (OverFirst l t false → Inv (first_state t)) → Inv (record { branches = []; systems = ss })
  run_of_steps_keep keeps limit n ss e first = subst Kept e kept
    where
      Kept : Ended → Type ℓ
      Kept (finished m us) = Inv (record { branches = []; systems = us })
      Kept (refused m why) = Unit {ℓ}

      kept : Kept (run_of l limit t)
      kept =
          run_of_ends l t limit Kept (λ o. tt) (λ m s b bs o h q u. tt) (λ m s b bs why o h q u f. tt)
          (λ m s o h q u. subst Inv (λ j. record { branches = u j; systems = s.systems }) (leads_keeps l t.modulus Inv keeps m (first_state t) s h (first o)))

  -- What each rule keeps.
  pub run_of_keeps : ((b : Branch) (waiting : List Branch) (listed : List System) (s : State) → Taken l t.modulus b waiting listed s →
      Inv (record { branches = b ∷ waiting; systems = listed }) → Inv s) →
      (limit n : ℕ) (ss : List System) → run_of l limit t ≡ finished n ss → Inv (first_state t) → Inv (record { branches = []; systems = ss })
  run_of_keeps keeps limit n ss e h =
      run_of_steps_keep (λ b waiting listed s f. keeps b waiting listed s (step_taken l t.modulus waiting listed b s f)) limit n ss e (λ o. h)

-- ── steps ──
pub run_of_steps : (l : Limits) (limit : ℕ) (t : Input) → run_steps (run_of l limit t) ≤ limit
run_of_steps l limit t =
    run_of_ends l t limit (λ r. run_steps r ≤ limit) (λ o. omega arith) (λ n s b bs o h q u. omega (arith, q)) (λ n s b bs why o h q u f. omega (arith, q))
    (λ n s o h q u. q)
