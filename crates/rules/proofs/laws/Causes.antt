-- Causes of refusals (Cause.antt): a call is refused, and a step stops, exactly with a cause.
use Rattle.std.specs.Prelude.{◌≡◌, refl, Bool, true, false, ℕ, suc, ◌+◌, ◌-◌, ◌/◌, ◌≤◌, ◌<◌}
use Rattle.std.proofs.Common.{◌∙◌, ap, inl, inr, arith}
use Rattle.std.proofs.Math.Path.{subst}
use mathlib.Core.List.{List, [], ◌∷◌}
use borrow.Author.Tests.{ltb-true, ltb-false, lt-ltb, le-ltb}
use Rattle.polynomials.specs.Poly.{Poly}
use Rattle.polynomials.specs.Bounds.{over, Bounded, within, degree_passed, terms_passed}
use Rattle.tables.specs.Read.{good, Input, System, read_table}
use Rattle.tables.specs.declared.Reason.{Reason}
use Rattle.tables.specs.declared.Reason.TheVariants.{Terms, Degree, Room, Steps}
use Rattle.rules.specs.Branch.{Branch}
use Rattle.rules.specs.Room.{Limits, State, polynomials_size, live}
use Rattle.rules.specs.Rule.{Rule, drop, list, split, divide, close, rule_of}
use Rattle.rules.specs.Step.{Stepped, next, stopped, within_room, after_division, remainder_by, split_open, split_aside, divided, closed, with_q, state, replace, apply, step}
use Rattle.rules.specs.Run.{Ended, finished, refused, run_steps, run, run_of, first_state}
use Rattle.rules.specs.Eliminate.{room_of, limits_of, Eliminated, listed, turned_back, steps_of, delivered, eliminated}
use Rattle.rules.specs.Cause.{Leads, Reached, OfStep, Cause, in_reading, in_first_branch, at_limit, in_step, at_end}
use Rattle.rules.specs.Cause.{MetReplacing, degree_met, terms_met, room_met, met_later, Met, splitting, dividing_degree, dividing_terms, dividing_room, closing}
use Rattle.rules.proofs.laws.Taken.{tested}
use Rattle.rules.proofs.laws.Calls.{delivered_short, delivered_ends, call_read, call_not_read, call_ends}
use Rattle.rules.proofs.laws.Runs.{OverFirst, run_of_over, run_of_on, run_of_ends, run_none, run_out, run_next, run_of_steps}

-- ── the room of a call ──
module _ (work n : ℕ) where
  is_over : over (limits_of work).of_room n ≡ true → room_of work < n
  unfolding over limits_of
  is_over e = ltb-true (room_of work) n e

  not_over : over (limits_of work).of_room n ≡ false → n ≤ room_of work
  unfolding over limits_of
  not_over e = ltb-false (room_of work) n e

  over_true : room_of work < n → over (limits_of work).of_room n ≡ true
  unfolding over limits_of
  over_true h = lt-ltb (room_of work) n h

  over_false : n ≤ room_of work → over (limits_of work).of_room n ≡ false
  unfolding over limits_of
  over_false h = le-ltb (room_of work) n h

  room_stops : (x : Stepped) → room_of work < n → tested (over (limits_of work).of_room n) x ≡ stopped Room
  room_stops x h = ap (λ (c : Bool). tested c x) (over_true h)

  room_left : (x : Stepped) → n ≤ room_of work → tested (over (limits_of work).of_room n) x ≡ x
  room_left x h = ap (λ (c : Bool). tested c x) (over_false h)

-- ── of a step ──
-- P of the reason, if the step stopped.
abbrev IfStopped : (Reason → Type 0) → Stepped → Type 0
IfStopped P (next s) = Unit {0}
IfStopped P (stopped why) = P why

module _ (work p : ℕ) (waiting : List Branch) (listed : List System) where
  abbrev l : Limits
  l = limits_of work

  -- A test of the room that stops has met the room.
  tested_cause : (P : Reason → Type 0) (n : ℕ) (x : Stepped) → (room_of work < n → P Room) → (n ≤ room_of work → IfStopped P x) →
      IfStopped P (tested (over l.of_room n) x)
  tested_cause P n x h k = go (over l.of_room n) refl
    where
      go : (c : Bool) → over l.of_room n ≡ c → IfStopped P (tested c x)
      go true e = h (is_over work n e)
      go false e = k (not_over work n e)

  -- A division that stops has met a degree or the terms.
  division_cause : (P : Reason → Type 0) (x : Bounded) (k : Poly → Stepped) → (x ≡ degree_passed → P Degree) → (x ≡ terms_passed → P Terms) →
      ((r : Poly) → x ≡ within r → IfStopped P (k r)) → IfStopped P (after_division x k)
  division_cause P (within r) k d t h = h r refl
  division_cause P degree_passed k d t h = d refl
  division_cause P terms_passed k d t h = t refl

  replace_cause : (k : ℕ) (f : Poly) (gs : List Poly) (b : Branch) → IfStopped (MetReplacing work p waiting listed k f gs b) (replace l p waiting listed k f gs b)
  unfolding replace
  replace_cause k f [] b = tt
  replace_cause k f (g ∷ gs) b =
      division_cause M (remainder_by l p k f g) _ (degree_met g gs b) (terms_met g gs b)
      (λ r e. tested_cause M (polynomials_size gs + live (state l p waiting listed (with_q l p r b))) (replace l p waiting listed k f gs (with_q l p r b))
      (room_met g gs b r e) (λ h. later r e h (replace l p waiting listed k f gs (with_q l p r b)) (replace_cause k f gs (with_q l p r b))))
    where
      M : Reason → Type 0
      M = MetReplacing work p waiting listed k f (g ∷ gs) b

      later : (r : Poly) → remainder_by l p k f g ≡ within r → polynomials_size gs + live (state l p waiting listed (with_q l p r b)) ≤ room_of work →
          (x : Stepped) → IfStopped (MetReplacing work p waiting listed k f gs (with_q l p r b)) x → IfStopped M x
      later r e h (next s) m = tt
      later r e h (stopped why) m = met_later g gs b why r e h m

  module _ (b : Branch) where
    abbrev M : Reason → Type 0
    M = Met work p waiting listed b

    apply_cause : (r : Rule) → rule_of b ≡ r → IfStopped M (apply l p waiting listed r b)
    unfolding apply within_room
    apply_cause drop q = tt
    apply_cause list q = tt
    apply_cause (split k f) q =
        let s : State = record { branches = split_open l p k f b ∷ (split_aside l p k f b ∷ waiting); systems = listed } in
        tested_cause M (live s) (next s) (splitting k f q) (λ h. tt)
    apply_cause (divide k f g) q =
        division_cause M (remainder_by l p k f.poly g.poly) _ (dividing_degree k f g q) (dividing_terms k f g q)
        (λ r e. let s = state l p waiting listed (divided l p g r b) in tested_cause M (live s) (next s) (dividing_room k f g r q e) (λ h. tt))
    apply_cause (close k f) q =
        closes (replace l p waiting listed k f.poly b.Q (closed l p f b)) (replace_cause k f.poly b.Q (closed l p f b))
      where
        closes : (x : Stepped) → IfStopped (MetReplacing work p waiting listed k f.poly b.Q (closed l p f b)) x → IfStopped M x
        closes (next s) m = tt
        closes (stopped why) m = closing k f why q m

    pub stopped_cause : (why : Reason) → step l p b waiting listed ≡ stopped why → M why
    unfolding step
    stopped_cause why e = subst (IfStopped M) e (apply_cause (rule_of b) refl)

  -- The numbers of a step.
  replacing_reason : (k : ℕ) (f : Poly) (gs : List Poly) (b : Branch) (why : Reason) → MetReplacing work p waiting listed k f gs b why → OfStep why
  replacing_reason k f gs b why (degree_met g hs c e) = inr (inl refl)
  replacing_reason k f gs b why (terms_met g hs c e) = inl refl
  replacing_reason k f gs b why (room_met g hs c r e h) = inr (inr refl)
  replacing_reason k f gs b why (met_later g hs c w r e h m) = replacing_reason k f hs (with_q l p r c) w m

  met_reason : (b : Branch) (why : Reason) → Met work p waiting listed b why → OfStep why
  met_reason b why (splitting k f q h) = inr (inr refl)
  met_reason b why (dividing_degree k f g q e) = inr (inl refl)
  met_reason b why (dividing_terms k f g q e) = inl refl
  met_reason b why (dividing_room k f g r q e h) = inr (inr refl)
  met_reason b why (closing k f w q m) = replacing_reason k f.poly b.Q (closed l p f b) w m

  -- What is met stops the step.
  divided_so : {x y : Bounded} (k : Poly → Stepped) → x ≡ y → after_division x k ≡ after_division y k
  divided_so k e = ap (λ (x : Bounded). after_division x k) e

  replacing_stops : (k : ℕ) (f : Poly) (gs : List Poly) (b : Branch) (why : Reason) → MetReplacing work p waiting listed k f gs b why →
      replace l p waiting listed k f gs b ≡ stopped why
  unfolding replace
  replacing_stops k f gs b why (degree_met g hs c e) = divided_so _ e
  replacing_stops k f gs b why (terms_met g hs c e) = divided_so _ e
  replacing_stops k f gs b why (room_met g hs c r e h) = divided_so _ e ∙ room_stops work _ (replace l p waiting listed k f hs (with_q l p r c)) h
  replacing_stops k f gs b why (met_later g hs c w r e h m) =
      divided_so _ e
      ∙ room_left work _ (replace l p waiting listed k f hs (with_q l p r c)) h
      ∙ replacing_stops k f hs (with_q l p r c) w m

  by_rule : (b : Branch) {r : Rule} → rule_of b ≡ r → apply l p waiting listed (rule_of b) b ≡ apply l p waiting listed r b
  by_rule b q = ap (λ (r : Rule). apply l p waiting listed r b) q

  pub cause_stops : (b : Branch) (why : Reason) → Met work p waiting listed b why → step l p b waiting listed ≡ stopped why
  unfolding step apply within_room
  cause_stops b why (splitting k f q h) = by_rule b q ∙ room_stops work _ _ h
  cause_stops b why (dividing_degree k f g q e) = by_rule b q ∙ divided_so _ e
  cause_stops b why (dividing_terms k f g q e) = by_rule b q ∙ divided_so _ e
  cause_stops b why (dividing_room k f g r q e h) = by_rule b q ∙ divided_so _ e ∙ room_stops work _ _ h
  cause_stops b why (closing k f w q m) = by_rule b q ∙ replacing_stops k f.poly b.Q (closed l p f b) w m

-- ── of a call ──
-- P of the steps, the reason and the record, if the call was refused.
abbrev IfRefused : (ℕ → Reason → ℕ → Type 0) → Eliminated → Type 0
IfRefused P (listed n ss words) = Unit {0}
IfRefused P (turned_back n why at) = P n why at

module _ (w : List ℕ) (work output limit : ℕ) where
  abbrev C : ℕ → Reason → ℕ → Type 0
  C = Cause w work output limit

  module _ (t : Input) (q : read_table w ≡ good t) where
    abbrev reached : (n : ℕ) (s : State) → OverFirst (limits_of work) t false → Leads (limits_of work) t.modulus n (first_state t) s → Reached w work n s
    reached n s o h = record { input = t; accepted = q; has_room = not_over work (live (first_state t)) o; by_steps = h }

    run_cause : IfRefused C (delivered (output / 4) t (run_of (limits_of work) limit t))
    run_cause =
        run_of_ends (limits_of work) t limit (λ x. IfRefused C (delivered (output / 4) t x))
        (λ o. in_first_branch t q (is_over work (live (first_state t)) o))
        (λ n s b bs o h e u. at_limit n s b bs (reached n s o h) e u)
        (λ n s b bs why o h e u f. in_step n s b bs why (reached n s o h) e u f
        (met_reason work t.modulus bs s.systems b why (stopped_cause work t.modulus bs s.systems b why f)))
        (λ n s o h e u. delivered_ends (output / 4) t n s.systems (IfRefused C) (λ k. at_end n s (reached n s o h) e u k) (λ k. tt))

  pub refused_cause : (n : ℕ) (why : Reason) (at : ℕ) → eliminated w work output limit ≡ turned_back n why at → C n why at
  refused_cause n why at e = subst (IfRefused C) e (call_ends w work output limit (IfRefused C) (λ why at q. in_reading why at q) run_cause)

  -- The other way: after the steps that lead to it, the run goes on from the state reached.
  module _ (n : ℕ) (s : State) (r : Reached w work n s) (left : ℕ) (enough : n + left ≡ limit) where
    abbrev p : ℕ
    p = r.input.modulus

    comes_to : (x : Ended) → run (limits_of work) p left n s ≡ x → eliminated w work output limit ≡ delivered (output / 4) r.input x
    comes_to x e =
        call_read w work output limit r.input r.accepted
        ∙ ap (delivered (output / 4) r.input)
        (run_of_on (limits_of work) r.input limit (over_false work (live (first_state r.input)) r.has_room) n left s r.by_steps enough ∙ e)

  pub cause_refuses : (n : ℕ) (why : Reason) (at : ℕ) → C n why at → eliminated w work output limit ≡ turned_back n why at
  cause_refuses n why at (in_reading x i q) = call_not_read w work output limit x i q
  cause_refuses n why at (in_first_branch t q h) =
      call_read w work output limit t q ∙ ap (delivered (output / 4) t) (run_of_over (limits_of work) t limit (over_true work (live (first_state t)) h))
  cause_refuses n why at (at_limit m s b bs r e u) = comes_to m s r 0 (omega (arith, e)) (refused m Steps) (run_out (limits_of work) r.input.modulus m s b bs u)
  cause_refuses n why at (in_step m s b bs x r e u f o) =
      comes_to m s r (suc (limit - m - 1)) (omega (arith, e)) (refused m x) (run_next (limits_of work) r.input.modulus m s b bs u (limit - m - 1) (stopped x) f)
  cause_refuses n why at (at_end m s r e u h) =
      comes_to m s r (limit - m) (omega (arith, e)) (finished m s.systems) (run_none (limits_of work) r.input.modulus m s (limit - m) u)
      ∙ delivered_short (output / 4) r.input m s.systems h

  -- Refused or not, the steps are those of the run.
  pub steps_within : steps_of (eliminated w work output limit) ≤ limit
  steps_within =
      call_ends w work output limit Within (λ why at q. omega arith) (λ t q. of_ended t (run_of (limits_of work) limit t) (run_of_steps (limits_of work) limit t))
    where
      Within : Eliminated → Type 0
      Within o = steps_of o ≤ limit

      of_ended : (t : Input) (x : Ended) → run_steps x ≤ limit → Within (delivered (output / 4) t x)
      of_ended t (finished n ss) h = delivered_ends (output / 4) t n ss Within (λ k. h) (λ k. h)
      of_ended t (refused n why) h = h
