-- A stretch of the run, from every state that the work area may hold: one that ends gives the run, and one that pauses gives it with what goes on.
use mathlib.Core.Path.{◌≡◌, refl, sym, ap, subst}
use mathlib.Core.Logic.{◌⊎◌, inl, inr}
use Prim.Native.Nat.{ℕ, ◌-◌, ◌≤◌, ◌<◌}
use native.Mathlib.Omega.{arith}
use mathlib.Core.List.{List}
use native.Mathlib.Nat.{sub-zero}
use lib.ListN.{length}
use Rattle.std.specs.Prelude.{Option, Some, None}
use Rattle.std.specs.Option.{unwrap_or}
use Rattle.records.specs.Records.{view}
use Rattle.branches.specs.Area.{Area, Held, HeldIn, used}
use Rattle.branches.proofs.LengthLaws.{same_used}
use Rattle.rules.specs.Run.{Ended, run}
use Rattle.representation.specs.Represent.{state_of}
use Rattle.representation.specs.Ready.{Ready, limits_in}
use Rattle.run.specs.declared.Answer.{Answer}
use Rattle.run.specs.declared.Outcome.{Outcome}
use Rattle.run.specs.declared.Stretch.{Stretch}
use Rattle.run.specs.Stretch.{Ran, Stretched}
use Rattle.run.proofs.RunLaws.{Answers}

-- q answers the run from every state that w held, `from` steps being done; v is the area then.
abbrev pub RunsTo : ℕ → ℕ → ℕ → List (List ℕ) → Answer → List (List ℕ) → Type 0
RunsTo p limit from w q v =
    (a : Area) → HeldIn w a → Ready p a
    → Ran (run (limits_in (used w)) p (limit - from) from (state_of a)) p q.steps q.outcome (view v) (used w)

-- The same, from the run's first step.
abbrev pub Runs : ℕ → ℕ → List (List ℕ) → Answer → List (List ℕ) → Type 0
Runs p limit w q v =
    (a : Area) → HeldIn w a → Ready p a → Ran (run (limits_in (used w)) p limit 0 (state_of a)) p q.steps q.outcome (view v) (used w)

pub runs_from_0 : (p limit : ℕ) (w : List (List ℕ)) (q : Answer) (v : List (List ℕ)) → RunsTo p limit 0 w q v → Runs p limit w q v
runs_from_0 p limit w q v =
    subst (λ (n : ℕ). (a : Area) → HeldIn w a → Ready p a
    → Ran (run (limits_in (used w)) p n 0 (state_of a)) p q.steps q.outcome (view v) (used w)) (sub-zero limit)

-- What a call of `run` has told.
pub record Told (p limit from : ℕ) (w : List (List ℕ)) (q : Stretch) (v : List (List ℕ)) : Type 0 where
  pub same : length v ≡ length w
  pub answers : Answers p limit from w q v

module _ {p limit from : ℕ} {w : List (List ℕ)} {q : Stretch} {v : List (List ℕ)} (S : Told p limit from w q v) where
  by_outcome : (e : Option Outcome) → q.outcome ≡ e → (a : Area) → HeldIn w a → Ready p a
      → Stretched (run (limits_in (used w)) p (limit - from) from (state_of a)) p limit q.steps e (view v) (used w)
  by_outcome e k a H R =
      let E = run (limits_in (used w)) p (limit - from) from (state_of a) in
      subst (λ (e : Option Outcome). Stretched E p limit q.steps e (view v) (used w)) k (S.answers a H R)

  pub stretch_ends : {o : Outcome} → q.outcome ≡ Some o → RunsTo p limit from w (record { steps = q.steps; outcome = o }) v
  stretch_ends {o} k = by_outcome (Some o) k

  -- ── it pauses: the steps done, and a state to go on from ──
  module _ (k : q.outcome ≡ None) where
    pub pause_within : ((a : Area) × HeldIn w a × Ready p a) → q.steps ≤ limit
    pause_within s = (by_outcome None k s.0 s.1 s.2).0

    pub pause_holds : ((a : Area) × HeldIn w a × Ready p a) → (a : Area) × HeldIn v a × Ready p a
    pause_holds s =
        let b = (by_outcome None k s.0 s.1 s.2).1 in
        (b.0, subst (λ (m : ℕ). Held (view v) m b.0) (sym (same_used v w S.same)) b.1, b.2)

    pub stretch_goes_on : (r : Answer) (u : List (List ℕ)) → RunsTo p limit q.steps v r u → RunsTo p limit from w r u
    stretch_goes_on r u G a H R =
        let b = (by_outcome None k a H R).1 in
        let on =
        subst (λ (m : ℕ). Held (view v) m b.0 → Ran (run (limits_in m) p (limit - q.steps) q.steps (state_of b.0)) p r.steps r.outcome (view u) m) (same_used v w S.same)
        (λ h. G b.0 h b.2) in
        subst (λ (E : Ended). Ran E p r.steps r.outcome (view u) (used w)) b.3 (on b.1)

-- In long scratch a stretch doesn't pause: it ends with the outcome of the run.
pub long_ends : (e : Option Outcome) {o : Outcome} (d : Outcome) → (e ≡ None → (256 < 256) ⊎ (512 < 512)) → o ≡ unwrap_or e d → e ≡ Some o
long_ends None d h u = elim (h refl) [ inl short ↦ absurd (omega (arith, short)) | inr short ↦ absurd (omega (arith, short)) ]
long_ends (Some x) d h u = ap Some (sym u)
