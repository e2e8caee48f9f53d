-- The invariants of the three loops of `run`, each against what stood where its loop began; and the run, one step at a time.
use mathlib.Core.Path.{◌≡◌, refl, sym, ap, subst, ◌∙◌}
use mathlib.Core.List.{List, [], map, reverse}
use Prim.Native.Nat.{ℕ, zero, suc, ◌-◌, ◌≤◌, ◌<◌}
use native.Mathlib.Omega.{arith}
use lib.ListN.{length, take}
use Rattle.polynomials.specs.Poly.{Poly}
use Rattle.polynomials.specs.Packed.{terms}
use Rattle.polynomials.specs.Working.{Holds}
use Rattle.polynomials.specs.Division.{degree}
use Rattle.polynomials.specs.Bounds.{standard, Bounded, within, and_then, bounded_round, bounded_remainder}
use Rattle.polynomials.specs.laws.Answers.{Answered}
use Rattle.polynomials.specs.laws.Bounded.{round_formed}
use Rattle.polynomials.specs.laws.Degree.{round_lowers}
use Rattle.residues.specs.Prime.{Prime}
use Rattle.division.proofs.RemainderLaws.{remainder_done, remainder_again}
use Rattle.tables.specs.declared.Reason.TheVariants.{Steps}
use Rattle.rules.specs.Room.{Limits}
use Rattle.rules.specs.Step.{Stepped, remainder_by, step}
use Rattle.rules.specs.Run.{Ended, finished, refused, after_step, run}
use Rattle.records.specs.Records.{view}
use Rattle.branches.specs.Area.{Stored, Area, Held, with_open, HeldIn, used}
use Rattle.representation.specs.Represent.{branch_of, system_of, state_of}
use Rattle.representation.specs.Ready.{Ready, limits_in}
use Rattle.members.specs.declared.Dividends.{Dividends}
use Rattle.members.specs.Members.{HasMembers, rest_of_step}
use Rattle.steps.specs.Pending.{Pivoted}
use Rattle.polynomials.specs.declared.Term.{Term as Packed}

-- The run from a state, and what is left of a step from a branch, in a work area with so many records.
abbrev pub run_in : ℕ → ℕ → ℕ → ℕ → Area → Ended
run_in most p left n a = run (limits_in most) p left n (state_of a)

abbrev pub rest_in : ℕ → ℕ → Dividends → ℕ → ℕ → Poly → Stored → List Stored → List Stored → Stepped
rest_in most = rest_of_step (limits_in most)

-- The run from the state held, so many steps being done, gives the run from where the loop began, with `from` done.
pub record AtRun (p limit from : ℕ) (w₀ w : List (List ℕ)) (steps : ℕ) : Type 0 where
  pub same : length w ≡ length w₀
  pub within : steps ≤ limit
  pub some : (a : Area) × Held (view w) (used w₀) a × Ready p a
  pub all :
      (a₀ : Area) → HeldIn w₀ a₀ → Ready p a₀
      → (a : Area) × Held (view w) (used w₀) a × Ready p a
      × (run_in (used w₀) p (limit - steps) steps a ≡ run_in (used w₀) p (limit - from) from a₀)

-- What is left of the step is the step, by the pivot f in v(k+1).
pub record AtMembers (p k : ℕ) (f : Poly) (d : Dividends) (left₀ : ℕ) (w₀ w : List (List ℕ)) (left : ℕ) : Type 0 where
  pub same : length w ≡ length w₀
  pub some :
      (b : Stored) × (bs : List Stored) × (ss : List Stored) × Held (view w) (used w₀) (with_open b bs ss) × Ready p (with_open b bs ss)
      × HasMembers d left b
  pub all :
      (b₀ : Stored) (bs ss : List Stored) → HeldIn w₀ (with_open b₀ bs ss) → Ready p (with_open b₀ bs ss)
      → HasMembers d left₀ b₀
      → (b : Stored) × Held (view w) (used w₀) (with_open b bs ss) × Ready p (with_open b bs ss) × HasMembers d left b
      × (rest_in (used w₀) p d left k f b bs ss ≡ rest_in (used w₀) p d left₀ k f b₀ bs ss)

-- What the rounds left form is what all form. The first n words of r are divided.
pub record AtDivision (p k d : ℕ) (f : Poly) (r₀ : List Packed) (n₀ : ℕ) (r : List Packed) (n : ℕ) : Type 0 where
  pub same : length r ≡ length r₀
  pub inside : n ≤ length r
  pub holds : Holds p (take n r)
  pub rounds :
      (s₀ : ℕ) → degree k (terms (take n₀ r₀)) < s₀
      → (s : ℕ) × (degree k (terms (take n r)) < s)
      × (bounded_remainder standard p k d f s (terms (take n r)) ≡ bounded_remainder standard p k d f s₀ (terms (take n₀ r₀)))

-- ── where a loop begins ──
pub run_begins : (p limit from : ℕ) (w : List (List ℕ)) → from ≤ limit → ((a : Area) × HeldIn w a × Ready p a) → AtRun p limit from w w from
run_begins p limit from w l h = record { same = refl; within = l; some = h; all = λ a H R. (a, H, R, refl) }

pub division_begins : (p k d : ℕ) (f : Poly) (r : List Packed) (n : ℕ) → n ≤ length r → Holds p (take n r) → AtDivision p k d f r n r n
division_begins p k d f r n l h = record { same = refl; inside = l; holds = h; rounds = λ s q. (s, q, refl) }

-- ── the run ──
module _ (l : Limits) (p n : ℕ) where
  pub run_ends : (left : ℕ) (ss : List Stored) → run l p left n (state_of (record { branches = []; systems = ss })) ≡ finished n (reverse (map system_of ss))
  unfolding run
  run_ends zero ss = refl
  run_ends (suc left) ss = refl

  module _ (b : Stored) (bs ss : List Stored) where
    pub run_used : run l p 0 n (state_of (with_open b bs ss)) ≡ refused n Steps
    unfolding run
    run_used = refl

    pub run_steps : (left : ℕ)
        → run l p (suc left) n (state_of (with_open b bs ss))
        ≡ after_step (run l p left (suc n)) n (step l p (branch_of b) (map branch_of bs) (reverse (map system_of ss)))
    unfolding run
    run_steps left = refl

-- ── a round ──
-- The pivot is in t, and its initial in i; the round leaves r₁.
module _ {p k d : ℕ} {t i : List Packed} (prime : Prime p) (P : Pivoted p k d t i) {r₀ : List Packed} {n₀ : ℕ} {r : List Packed} {n : ℕ}
    (D : AtDivision p k d (terms t) r₀ n₀ r n) (more : d ≤ degree k (terms (take n r))) {r₁ : List Packed} {m : ℕ}
    (A : Answered p (bounded_round standard p k d (terms t) (terms (take n r))) m r₁) where
  pub round_less : degree k (terms (take m r₁)) < degree k (terms (take n r))
  round_less =
      subst (λ (h : Poly). degree k h < degree k (terms (take n r)))
      (sym (round_formed standard p k d (terms t) (terms (take n r)) (terms (take m r₁)) A.is).same)
      (round_lowers p (omega (arith, prime.two≤)) k d (terms t) (terms (take n r)) P.some (omega (arith, P.of_degree)) more)

  pub division_goes_on : length r₁ ≡ length r → AtDivision p k d (terms t) r₀ n₀ r₁ m
  division_goes_on e = record {
    same = e ∙ D.same;
    inside = A.inside;
    holds = A.holds;
    rounds = λ s₀ q.
        let z = D.rounds s₀ q in
        let a = remainder_again standard p k d (terms t) (terms (take n r)) z.0 z.1 more in
        let one = ap (λ (B : Bounded). and_then B (bounded_remainder standard p k d (terms t) a.0)) A.is in
        (a.0, omega (arith, round_less, z.1, a.1), sym (a.2 ∙ one) ∙ z.2);
  }

-- ── where the division ends ──
module _ {p k d : ℕ} {t i : List Packed} (P : Pivoted p k d t i) {r₀ : List Packed} {n₀ : ℕ} {r : List Packed} {n : ℕ}
    (D : AtDivision p k d (terms t) r₀ n₀ r n) (most : ℕ) where
  -- The remainder is what the rounds left form.
  remainder_left : (s : ℕ) × (degree k (terms (take n r)) < s)
      × (bounded_remainder standard p k d (terms t) s (terms (take n r)) ≡ remainder_by (limits_in most) p k (terms t) (terms (take n₀ r₀)))
  unfolding remainder_by
  remainder_left =
      let s₀ = suc (degree k (terms (take n₀ r₀))) in
      let z = D.rounds s₀ (omega arith) in
      (z.0, z.1, z.2 ∙ ap (λ (d : ℕ). bounded_remainder standard p k d (terms t) s₀ (terms (take n₀ r₀))) (sym P.of_degree))

  pub division_ends : degree k (terms (take n r)) < d → remainder_by (limits_in most) p k (terms t) (terms (take n₀ r₀)) ≡ within (terms (take n r))
  division_ends h = let z = remainder_left in sym z.2 ∙ remainder_done standard p k d (terms t) (terms (take n r)) z.0 h

  -- A round passes a bound, and so does the division.
  pub division_passes : (B : Bounded) → ((g : Poly → Bounded) → and_then B g ≡ B) → d ≤ degree k (terms (take n r))
      → bounded_round standard p k d (terms t) (terms (take n r)) ≡ B → remainder_by (limits_in most) p k (terms t) (terms (take n₀ r₀)) ≡ B
  division_passes B passes more e =
      let z = remainder_left in
      let a = remainder_again standard p k d (terms t) (terms (take n r)) z.0 z.1 more in
      let rest = bounded_remainder standard p k d (terms t) a.0 in
      sym z.2 ∙ a.2 ∙ ap (λ (B : Bounded). and_then B rest) e ∙ passes rest
