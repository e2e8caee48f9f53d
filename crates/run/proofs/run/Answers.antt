-- What is asked at each line of the run's code, by what is known where a loop's turn begins and where a call has answered.
use Rattle.std.specs.Prelude.{◌≡◌, List, true, ℕ, ◌-◌, Ok, Err, IsOk, ◌≤◌, ◌<◌, length, take}
use Rattle.std.proofs.Common.{refl, sym, ap, subst, ◌∙◌, inl, inr, arith, length-take-le}
use Rattle.std.proofs.lemmas.Bool.{false≢true}
use borrow.Author.Tests.{leb-false}
use Rattle.polynomials.specs.Poly.{Poly}
use Rattle.polynomials.specs.Packed.{terms}
use Rattle.polynomials.specs.Division.{degree}
use Rattle.polynomials.specs.Bounds.{standard, Bounded, degree_passed, terms_passed, and_then, bounded_round}
use Rattle.polynomials.specs.Working.{Forms}
use Rattle.polynomials.specs.declared.Passed.{Passed}
use Rattle.polynomials.specs.laws.Answers.{Answered, passes, formed_passed, round_answered}
use Rattle.division.specs.Lent.{lent_for_round}
use Rattle.tables.specs.declared.Reason.{Reason}
use Rattle.tables.specs.declared.Reason.TheVariants.{Degree, Terms}
use Rattle.rules.specs.Step.{stopped, remainder_by}
use Rattle.branches.specs.Area.{Opened, used, beyond}
use Rattle.steps.specs.declared.Prepared.TheVariants.{Members}
use Rattle.representation.specs.Ready.{limits_in}
use Rattle.run.specs.declared.Outcome.TheVariants.{Refused}
use Rattle.run.proofs.Invariants.{AtRun, AtMembers, run_begins, division_begins, round_less, division_goes_on, division_ends, division_passes}
use Rattle.run.proofs.MembersLaws.{AtMember, PutBack, ComesTo, members_open, members_left, member_taken, member_inside, member_holds}
use Rattle.run.proofs.MembersLaws.{member_open, member_behind, member_degree, member_terms, member_put_back}
use Rattle.run.proofs.RunLaws.{GoesTo, SomeOpen, AllOpen, Answers, run_holds_some, run_open_some, run_finished, run_no_steps}
use Rattle.run.proofs.RunLaws.{run_paused, run_stopped, run_goes_on, Preparation, PivotIn, prepared_as, prepared_done, prepared_stop, prepared_open, prepared_pivot}
use Rattle.run.proofs.RunLaws.{members_first, members_done, members_stop, ended}
use Rattle.run.proofs.run.Goals.{After-count-left, After-take-n, After-round_anywhere, After-put_back, Joined-prepared}
use Rattle.run.proofs.run.Goals.{then-not-round_fits, else-not-round_fits, in-Done, in-Members+else-members-test}
use Rattle.run.proofs.run.Goals as goal

-- ── the run ──
pub run-init : goal.run-init
run-init c = record {
  runs = run_begins c.args.p c.args.limit c.args.from c.args.w.now c.requires.from_le_limit c.requires.ready;
  stays = refl;
  crowds = λ e. absurd (false≢true e);
}

pub is_open-requires : goal.is_open-requires
is_open-requires c = run_holds_some c.run.invariant.runs

pub listed_systems-listed-requires : goal.listed_systems-listed-requires
listed_systems-listed-requires c = run_holds_some c.run.invariant.runs

pub prepare-requires-clause-ready : goal.prepare-requires-clause-ready
prepare-requires-clause-ready c = run_open_some c.run.invariant.runs (λ a H. sym (c.is_open.ensures a H) ∙ c.if-not-is_open.false)

-- The step is done, with members divided or without: what is held then, and what still holds of the rest of the area and of x.
module _ (c : Joined-prepared) where
  abbrev Came : Type 0
  Came =
      GoesTo (used c.run.w) c.args.p c.run.w c.match-prepared.w
      × (c.match-prepared.crowded ≡ true → length c.args.x.now < 512)
      × (beyond c.match-prepared.w ≡ beyond c.args.w.now)

  came : Came
  came = elim c.match-prepared.branch [
    | in-Done w ↦
        let P = prepared_as c.prepare.auto.w c.prepare.ensures.when_open (c.in-Ok.is ∙ ap Ok w.in-Done.is) in (
          subst (GoesTo (used c.run.w) c.args.p c.run.w) (sym w.w-is) (prepared_done P),
          λ e. c.run.invariant.crowds (sym w.crowded-is ∙ e),
          ap beyond w.w-is ∙ c.prepare.ensures.beyond_stays ∙ c.run.invariant.stays,
        )
    | in-Members+else-members-test w ↦
        let P = prepared_as c.prepare.auto.w c.prepare.ensures.when_open (c.in-Ok.is ∙ ap Ok w.in-Members.is) in
        let A = rw w.count-left.ensures at w.members.invariant.divides in (
          subst (GoesTo (used c.run.w) c.args.p c.run.w) (sym w.w-is) (members_done P A (omega (arith, w.members-test.false))),
          λ e. w.members.invariant.crowds (sym w.crowded-is ∙ e),
          ap beyond w.w-is ∙ w.members.invariant.stays,
        )
  ]

pub run-preserved : goal.run-preserved
run-preserved c =
    let a = c.args in
    let open_all : AllOpen c.run.w = λ k H. sym (c.is_open.ensures k H) ∙ c.if-not-is_open.false in
    let step = came c in
    let kept : length c.match-prepared.w ≡ length c.run.w = omega (arith, c.match-prepared.auto.w, c.prepare.auto.w) in
    let runs = run_goes_on c.run.invariant.runs open_all c.if-limit-steps.false c.match-prepared.w kept step.0 in
    record {
      runs = subst (AtRun a.p a.limit a.from a.w.now c.match-prepared.w) (omega arith) runs;
      crowds = step.1;
      stays = step.2;
    }

-- ── the members ──
module _ (c : After-count-left) where
  abbrev pivot : Poly
  pivot = terms (take c.in-Members.d.pivot c.prepare.new.t)

  all_open : AllOpen c.run.w
  all_open a H = sym (c.is_open.ensures a H) ∙ c.if-not-is_open.false

  some_open : SomeOpen c.args.p c.run.w
  some_open = run_open_some c.run.invariant.runs all_open

  prepared : Preparation c.args.p c.run.w (Ok (Members c.in-Members.d)) c.prepare.new.t c.prepare.new.i c.prepare.new.w
  prepared = prepared_as c.prepare.auto.w c.prepare.ensures.when_open (c.in-Ok.is ∙ ap Ok c.in-Members.is)

  pivot_in : PivotIn c.args.p c.in-Members.d c.prepare.new.t c.prepare.new.i
  pivot_in = prepared_pivot prepared some_open

  -- Where what is left of the step stops, the run is refused.
  left_stops : (why : Reason) (v : List (List ℕ)) → length v ≡ length c.args.w.now → Opened v
      → (let d = c.in-Members.d in ComesTo c.args.p d.k pivot d.dividends c.count-left.result c.prepare.new.w (stopped why))
      → Answers c.args.p c.args.limit c.args.from c.args.w.now (ended c.run.steps (Refused why 0)) v
  left_stops why v same o h = run_stopped c.run.invariant.runs all_open c.if-limit-steps.false why v same o (members_stop prepared why (rw c.count-left.ensures at h))

-- The next member is taken.
module _ (c : After-take-n) where
  member : let d = c.in-Members.d in
      AtMember c.args.p d.k (terms (take d.pivot c.prepare.new.t)) d.dividends c.count-left.result c.prepare.new.w c.take-n.new.w c.members.left
      c.take-n.result c.take-n.new.r
  member = member_taken c.members.invariant.divides c.members-test.true _ _ _ c.take-n.auto.w c.take-n.ensures.when_open_2

pub members-init : goal.members-init
members-init c = record {
  divides = rw c.count-left.ensures (members_first (prepared c) (some_open c));
  crowds = c.run.invariant.crowds;
  stays = c.prepare.ensures.beyond_stays ∙ c.run.invariant.stays;
}

pub take-n-requires-clause-opened : goal.take-n-requires-clause-opened
take-n-requires-clause-opened c = members_open c.members.invariant.divides

pub take-n-requires-clause-when_open : goal.take-n-requires-clause-when_open
take-n-requires-clause-when_open c = members_left c.members.invariant.divides c.members-test.true

pub put_back-requires-clause-opened : goal.put_back-requires-clause-opened
put_back-requires-clause-opened c = (member_open (member (goal.at.put_back-requires-clause-opened c).After-take-n), c.requires.prime)

pub put_back-requires-clause-when_open : goal.put_back-requires-clause-when_open
put_back-requires-clause-when_open c = member_behind (member (goal.at.put_back-requires-clause-when_open c).After-take-n)

-- The remainder is put back, or there is no room for it.
module _ (c : After-put_back) (of_pivot : PivotIn c.args.p c.in-Members.d c.prepare.new.t c.prepare.new.i)
    (M : let d = c.in-Members.d in
    AtMember c.args.p d.k (terms (take d.pivot c.prepare.new.t)) d.dividends c.count-left.result c.prepare.new.w c.take-n.new.w c.members.left
    c.take-n.result c.take-n.new.r) where
  back : PutBack c.args.p c.in-Members.d.dividends (c.members.left - 1) (take c.division.n c.division.r) (take c.division.n c.put_back.new.r) c.take-n.new.w
      c.put_back.result c.put_back.new.w
  back =
      let e = c.put_back.ensures in
      record { same = c.put_back.auto.w; sound = e.sound.0; monic_of = e.sound.1; puts = e.when_open_2 }

  member_goes : let d = c.in-Members.d in
      (IsOk c.put_back.result
      → AtMembers c.args.p d.k (terms (take d.pivot c.prepare.new.t)) d.dividends c.count-left.result c.prepare.new.w c.put_back.new.w (c.members.left - 1))
      × ((why : Reason) → c.put_back.result ≡ Err why
      → ComesTo c.args.p d.k (terms (take d.pivot c.prepare.new.t)) d.dividends c.count-left.result c.prepare.new.w (stopped why) × Opened c.put_back.new.w)
  member_goes =
      let D = c.division.invariant.rounds in
      member_put_back M c.requires.prime D.holds
      (division_ends of_pivot.pivoted D _ (omega (arith, c.if-e-degree.true, c.degree-e.ensures))) back

pub members-preserved : goal.members-preserved
members-preserved c =
    let z = goal.at.members-preserved c in
    record {
      divides = (member_goes z.After-put_back (pivot_in z.After-count-left) (member z.After-take-n)).0 (subst IsOk (sym c.in_default.is) refl);
      crowds = c.division.invariant.crowds;
      stays = c.put_back.ensures.beyond_stays ∙ c.take-n.ensures.beyond_stays ∙ c.members.invariant.stays;
    }

-- ── the division ──
pub division-init : goal.division-init
division-init c =
    let M = member (goal.at.division-init c).After-take-n in
    record { rounds = division_begins _ _ _ _ _ _ (member_inside M) (member_holds M); crowds = c.members.invariant.crowds }

pub round_fits-requires : goal.round_fits-requires
round_fits-requires c =
    let P = pivot_in (goal.at.round_fits-requires c).After-count-left in
    let D = c.division.invariant.rounds in
    let d = c.in-Members.d in (
      omega (arith, D.holds.few, length-take-le c.division.n c.division.r D.inside),
      omega (arith, P.pivoted.initial.few, length-take-le d.initial c.prepare.new.i P.initial_inside),
      omega (arith, P.pivoted.pivot.few, length-take-le d.pivot c.prepare.new.t P.pivot_inside),
    )

pub slice_bounds-divisor-end : goal.slice_bounds-divisor-end
slice_bounds-divisor-end c = (pivot_in (goal.at.slice_bounds-divisor-end c).After-count-left).initial_inside

pub slice_bounds-divisor-end-in-division : goal.slice_bounds-divisor-end-in-division
slice_bounds-divisor-end-in-division c = sym (length-take-le _ _ (pivot_in (goal.at.slice_bounds-divisor-end-in-division c).After-count-left).initial_inside)

pub slice_bounds-divisor-end-in-division-2 : goal.slice_bounds-divisor-end-in-division-2
slice_bounds-divisor-end-in-division-2 c = (pivot_in (goal.at.slice_bounds-divisor-end-in-division-2 c).After-count-left).pivot_inside

pub slice_bounds-divisor-end-in-division-3 : goal.slice_bounds-divisor-end-in-division-3
slice_bounds-divisor-end-in-division-3 c = sym (length-take-le _ _ (pivot_in (goal.at.slice_bounds-divisor-end-in-division-3 c).After-count-left).pivot_inside)

pub invariant_of-divisor : goal.invariant_of-divisor
invariant_of-divisor c =
    let P = (pivot_in (goal.at.invariant_of-divisor c).After-count-left).pivoted in
    record { some = P.some; holds = P.pivot; of_degree = P.of_degree; initial_holds = P.initial; of_initial = P.of_initial }

-- A round was due.
module _ (c : After-round_anywhere) where
  abbrev pivot_then : Poly
  pivot_then = terms (take c.in-Members.d.pivot c.prepare.new.t)

  abbrev next_round : Bounded
  next_round = bounded_round standard c.args.p c.in-Members.d.k c.in-Members.d.degree pivot_then (terms (take c.division.n c.division.r))

  degree_left : c.in-Members.d.degree ≤ degree c.in-Members.d.k (terms (take c.division.n c.division.r))
  degree_left = omega (arith, c.if-e-degree.false, c.degree-e.ensures)

  two : 1 ≤ c.args.p
  two = omega (arith, c.requires.prime.two≤)

  -- The run is crowded since now, or as before.
  crowds_now : c.if-not-round_fits.crowded ≡ true → length c.args.x.now < 512
  crowds_now = elim c.if-not-round_fits.branch [
    | then-not-round_fits w ↦ λ e.
        let d = c.in-Members.d in
        let long : length c.division.x < lent_for_round c.division.n d.initial d.pivot = leb-false _ _ (sym c.round_fits.ensures ∙ w.if-not-round_fits.true) in
        omega (arith, long, c.division.auto.x, c.members.auto.x, c.run.auto.x)
    | else-not-round_fits w ↦ λ e. c.division.invariant.crowds (sym w.crowded-is ∙ e)
  ]

  -- It formed m terms.
  formed : (m : ℕ) → Forms next_round (Ok m) c.round_anywhere.new.r → Answered c.args.p next_round m c.round_anywhere.new.r
  formed m F = round_answered c.args.p two m (Ok m) c.round_anywhere.new.r refl c.in-Members.d.k c.in-Members.d.degree pivot_then (terms (take c.division.n c.division.r)) F

  -- It passes a bound, and so does the division.
  passed_as : (e : Passed) → Forms next_round (Err e) c.round_anywhere.new.r → next_round ≡ passes e
  passed_as e F = formed_passed next_round e (Err e) c.round_anywhere.new.r refl F

  passed : PivotIn c.args.p c.in-Members.d c.prepare.new.t c.prepare.new.i → (B : Bounded) → ((g : Poly → Bounded) → and_then B g ≡ B) → next_round ≡ B
      → remainder_by (limits_in (used c.prepare.new.w)) c.args.p c.in-Members.d.k pivot_then (terms (take c.take-n.result c.take-n.new.r)) ≡ B
  passed P B stays e = division_passes P.pivoted c.division.invariant.rounds _ B stays degree_left e

pub division-smaller : goal.division-smaller
division-smaller c =
    let z = goal.at.division-smaller c in
    let r = z.After-round_anywhere in
    round_less c.requires.prime (pivot_in z.After-count-left).pivoted c.division.invariant.rounds (degree_left r) (formed r c.in-Ok-round_anywhere.m c.in-Ok-round_anywhere.ensures)

pub division-preserved : goal.division-preserved
division-preserved c =
    let z = goal.at.division-preserved c in
    let r = z.After-round_anywhere in
    let P = (pivot_in z.After-count-left).pivoted in
    record {
      rounds = division_goes_on c.requires.prime P c.division.invariant.rounds (degree_left r) (formed r c.in-Ok-round_anywhere.m c.in-Ok-round_anywhere.ensures) c.round_anywhere.auto.r;
      crowds = crowds_now r;
    }

-- ── the ways to return ──
pub returns-then-not-is_open-clause-stretches : goal.returns-then-not-is_open-clause-stretches
returns-then-not-is_open-clause-stretches c =
    run_finished c.run.invariant.runs (λ a H. sym (c.is_open.ensures a H) ∙ c.if-not-is_open.true) c.listed_systems-listed.result c.listed_systems-listed.ensures

pub returns-then-limit-steps-clause-stretches : goal.returns-then-limit-steps-clause-stretches
returns-then-limit-steps-clause-stretches c =
    run_no_steps c.run.invariant.runs (λ a H. sym (c.is_open.ensures a H) ∙ c.if-not-is_open.false) c.if-limit-steps.true

pub returns-then-crowded-clause-stretches : goal.returns-then-crowded-clause-stretches
returns-then-crowded-clause-stretches c = run_paused c.run.invariant.runs _ refl

pub returns-then-crowded-clause-when_paused : goal.returns-then-crowded-clause-when_paused
returns-then-crowded-clause-when_paused c e = inr (c.run.invariant.crowds c.if-crowded.true)

pub returns-in-Crowded-clause-when_paused : goal.returns-in-Crowded-clause-when_paused
returns-in-Crowded-clause-when_paused c e = inl (omega (arith, (c.prepare.ensures.when_crowded (c.in-Ok.is ∙ ap Ok c.in-Crowded.is)).0, c.run.auto.t))

pub returns-in-Crowded-clause-stretches : goal.returns-in-Crowded-clause-stretches
returns-in-Crowded-clause-stretches c = run_paused c.run.invariant.runs _ (c.prepare.ensures.when_crowded (c.in-Ok.is ∙ ap Ok c.in-Crowded.is)).1

pub returns-in-Err-clause-stretches : goal.returns-in-Err-clause-stretches
returns-in-Err-clause-stretches c =
    let all : AllOpen c.run.w = λ a H. sym (c.is_open.ensures a H) ∙ c.if-not-is_open.false in
    let why = c.in-Err.why in
    let P = prepared_as c.prepare.auto.w c.prepare.ensures.when_open c.in-Err.is in
    run_stopped c.run.invariant.runs all c.if-limit-steps.false why c.prepare.new.w (c.prepare.auto.w ∙ c.run.auto.w)
    (prepared_open why P (run_open_some c.run.invariant.runs all)) (prepared_stop why P)

pub returns-in-Err-Degree-clause-stretches : goal.returns-in-Err-Degree-clause-stretches
returns-in-Err-Degree-clause-stretches c =
    let z = goal.at.returns-in-Err-Degree-clause-stretches c in
    let M = member z.After-take-n in
    let e = passed_as z.After-round_anywhere c.in-Err-Degree.field-0 c.in-Err-Degree.ensures ∙ ap passes c.in-Err-Degree.field-0-is in
    left_stops z.After-count-left Degree c.take-n.new.w (omega (arith, c.take-n.auto.w, c.members.auto.w, c.prepare.auto.w, c.run.auto.w)) (member_open M)
    (member_degree M (passed z.After-round_anywhere (pivot_in z.After-count-left) degree_passed (λ g. refl) e))

pub returns-in-Err-Terms-clause-stretches : goal.returns-in-Err-Terms-clause-stretches
returns-in-Err-Terms-clause-stretches c =
    let z = goal.at.returns-in-Err-Terms-clause-stretches c in
    let M = member z.After-take-n in
    let e = passed_as z.After-round_anywhere c.in-Err-Terms.field-0 c.in-Err-Terms.ensures ∙ ap passes c.in-Err-Terms.field-0-is in
    left_stops z.After-count-left Terms c.take-n.new.w (omega (arith, c.take-n.auto.w, c.members.auto.w, c.prepare.auto.w, c.run.auto.w)) (member_open M)
    (member_terms M (passed z.After-round_anywhere (pivot_in z.After-count-left) terms_passed (λ g. refl) e))

pub returns-in-Err-put_back-clause-stretches : goal.returns-in-Err-put_back-clause-stretches
returns-in-Err-put_back-clause-stretches c =
    let z = goal.at.returns-in-Err-put_back-clause-stretches c in
    let why = c.in-Err-put_back.why in
    let s = (member_goes z.After-put_back (pivot_in z.After-count-left) (member z.After-take-n)).1 why c.in-Err-put_back.is in
    left_stops z.After-count-left why c.put_back.new.w
    (omega (arith, c.put_back.auto.w, c.take-n.auto.w, c.members.auto.w, c.prepare.auto.w, c.run.auto.w)) s.1 s.0

-- The records beyond, at each return.
pub returns-then-not-is_open-clause-beyond_stays : goal.returns-then-not-is_open-clause-beyond_stays
returns-then-not-is_open-clause-beyond_stays c = c.run.invariant.stays

pub returns-then-limit-steps-clause-beyond_stays : goal.returns-then-limit-steps-clause-beyond_stays
returns-then-limit-steps-clause-beyond_stays c = c.run.invariant.stays

pub returns-in-Crowded-clause-beyond_stays : goal.returns-in-Crowded-clause-beyond_stays
returns-in-Crowded-clause-beyond_stays c = c.prepare.ensures.beyond_stays ∙ c.run.invariant.stays

pub returns-in-Err-clause-beyond_stays : goal.returns-in-Err-clause-beyond_stays
returns-in-Err-clause-beyond_stays c = c.prepare.ensures.beyond_stays ∙ c.run.invariant.stays

pub returns-in-Err-Degree-clause-beyond_stays : goal.returns-in-Err-Degree-clause-beyond_stays
returns-in-Err-Degree-clause-beyond_stays c = c.take-n.ensures.beyond_stays ∙ c.members.invariant.stays

pub returns-in-Err-Terms-clause-beyond_stays : goal.returns-in-Err-Terms-clause-beyond_stays
returns-in-Err-Terms-clause-beyond_stays c = c.take-n.ensures.beyond_stays ∙ c.members.invariant.stays

pub returns-in-Err-put_back-clause-beyond_stays : goal.returns-in-Err-put_back-clause-beyond_stays
returns-in-Err-put_back-clause-beyond_stays c = c.put_back.ensures.beyond_stays ∙ c.take-n.ensures.beyond_stays ∙ c.members.invariant.stays
