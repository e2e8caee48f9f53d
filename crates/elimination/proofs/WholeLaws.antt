-- Elimination whole: a table refused in reading, a start that finds no room, and the run of a start that finds it.
use Rattle.std.specs.Prelude.{◌≡◌, refl, List, ℕ, ◌≤◌, length, Result, Err, is_ok, IsOk}
use Rattle.std.proofs.Common.{sym, ap, subst, ◌∙◌}
use Rattle.std.proofs.lemmas.Bool.{false≢true}
use Rattle.records.specs.Records.{Rec, capacity}
use Rattle.tables.specs.Read.{Input}
use Rattle.tables.specs.declared.Reason.{Reason}
use Rattle.rules.specs.Room.{Limits, State}
use Rattle.rules.specs.Step.{Stepped, next, stopped}
use Rattle.rules.specs.Run.{Ended, after_step, run, start, run_of}
use Rattle.rules.specs.Eliminate.{delivered, limits_of}
use Rattle.branches.specs.Area.{Area, Held}
use Rattle.representation.specs.Represent.{state_of}
use Rattle.run.specs.declared.Answer.{Answer}
use Rattle.run.specs.declared.Outcome.TheVariants.{Refused}
use Rattle.representation.specs.Ready.{Ready, limits_in}
use Rattle.run.specs.Stretch.{Ran, Left}
use Rattle.loading.specs.Started.{Started}
use Rattle.delivery.specs.Delivered.{Delivered}
use Rattle.elimination.specs.Worked.{Worked}
use Rattle.loading.proofs.StartLaws.{limits_are}

-- ── the start ──
err_same : {why reason : Reason} → ◌≡◌ {A = Result (Unit {0}) Reason} (Err why) (Err reason) → why ≡ reason
err_same e = cc

module _ (t : Input) where
  not_started : (s : Stepped) (k : State → Ended) (most : ℕ) {r : Result (Unit {0}) Reason} (v : List Rec) (room : ℕ) (out : List ℕ) → Started t s most r v
      → (why : Reason) → r ≡ Err why
      → Delivered (delivered room t (after_step k 0 s)) (record { steps = 0; outcome = Refused why 0 }) out out
  not_started (next s) k most v room out x why e = absurd (false≢true (sym (ap is_ok e) ∙ ap is_ok x.0))
  not_started (stopped reason) k most v room out x why e =
      let same : reason ≡ why = err_same (sym x.0 ∙ e) in
      record { answer = ap (λ (w : Reason). record { steps = 0; outcome = Refused w 0 }) (sym same); output = refl }

  held_first : (s : Stepped) {most : ℕ} (r : Result (Unit {0}) Reason) {v : List Rec} → Started t s most r v → IsOk r
      → (2 ≤ most) × ((a : Area) × Held v most a × Ready t.modulus a × (s ≡ next (state_of a)))
  held_first (next s) r x e = let a = x.2 in (x.1, (a.0, a.1, a.2, ap next (sym a.3)))
  held_first (stopped why) r x e = absurd (false≢true (sym (ap is_ok x.0) ∙ e))

module _ (t : Input) (most limit : ℕ) (r : Result (Unit {0}) Reason) (v : List Rec) (x : Started t (start (limits_in most) t) most r v) where
  pub no_room : (room : ℕ) (out : List ℕ) (why : Reason) → r ≡ Err why
      → Delivered (delivered room t (run_of (limits_in most) limit t)) (record { steps = 0; outcome = Refused why 0 }) out out
  unfolding run_of
  no_room room out why e = not_started t (start (limits_in most) t) (run (limits_in most) t.modulus limit 0) most v room out x why e

  -- What the work area holds after the run.
  pub run_leaves : {u : List Rec} → IsOk r → Left (run_of (limits_in most) limit t) t.modulus u most → Worked t limit most u
  run_leaves e left = record {
    unstarted = λ none. let y = subst (λ (s : Stepped). Started t s most r v) none x in absurd (false≢true (subst IsOk y.0 e));
    ran = λ s starts. left;
  }

  -- What it holds where the run does not start.
  pub refused_leaves : (why : Reason) → r ≡ Err why → Worked t limit most v
  refused_leaves why e = record {
    unstarted = λ none. let y = subst (λ (s : Stepped). Started t s most r v) none x in (refl, y.1, y.2);
    ran = λ s starts. let y = subst (λ (s : Stepped). Started t s most r v) starts x in absurd (false≢true (sym (ap is_ok e) ∙ ap is_ok y.0));
  }

  pub started_in_two : IsOk r → 2 ≤ most
  started_in_two e = (held_first t (start (limits_in most) t) r x e).0

  -- The state that the run begins with, said of the room and the modulus that it is given.
  pub begins : {p most₁ : ℕ} → IsOk r → t.modulus ≡ p → most₁ ≡ most → (a : Area) × Held v most₁ a × Ready p a
  begins e q m =
      let a = (held_first t (start (limits_in most) t) r x e).1 in
      (a.0, subst (λ (n : ℕ). Held v n a.0) (sym m) a.1, subst (λ (n : ℕ). Ready n a.0) q a.2)

  pub run_is : {p most₁ most₂ : ℕ} {q : Answer} {u : List Rec} → IsOk r → t.modulus ≡ p → most₁ ≡ most → most₂ ≡ most
      → ((a : Area) → Held v most₁ a → Ready p a → Ran (run (limits_in most₁) p limit 0 (state_of a)) p q.steps q.outcome u most₁)
      → Ran (run_of (limits_in most) limit t) t.modulus q.steps q.outcome u most₂
  unfolding run_of
  run_is {p = p} {q = q} {u = u} e same m m₂ k =
      let a = (held_first t (start (limits_in most) t) r x e).1 in
      let there = subst (λ (n : ℕ). (a : Area) → Held v n a → Ready p a → Ran (run (limits_in n) p limit 0 (state_of a)) p q.steps q.outcome u n) m k in
      let here = subst (λ (n : ℕ). (a : Area) → Held v most a → Ready n a → Ran (run (limits_in most) n limit 0 (state_of a)) n q.steps q.outcome u most) (sym same) there in
      subst (λ (n : ℕ). Ran (after_step (run (limits_in most) t.modulus limit 0) 0 (start (limits_in most) t)) t.modulus q.steps q.outcome u n) (sym m₂)
      (subst (λ (s : Stepped). Ran (after_step (run (limits_in most) t.modulus limit 0) 0 s) t.modulus q.steps q.outcome u most) (sym a.3) (here a.0 a.1 a.2))

-- Said of the words of the work area, by the records that they make.
pub in_words : (w : List ℕ) (most room limit : ℕ) (t : Input) → most ≡ capacity w → {r : Answer} {before after : List ℕ}
    → Delivered (delivered room t (run_of (limits_in most) limit t)) r before after
    → Delivered (delivered room t (run_of (limits_of (length w)) limit t)) r before after
in_words w most room limit t same {r = r} {before = before} {after = after} d =
    subst (λ (l : Limits). Delivered (delivered room t (run_of l limit t)) r before after) (ap limits_in same ∙ sym (limits_are w)) d
