-- A run that finished is the run without limits, given as many steps. So an accepted list and its count of steps are the table's alone.
use Rattle.std.specs.Prelude.{◌≡◌, refl, false, ℕ, zero, suc, ◌+◌, ◌-◌, ◌≤◌}
use Rattle.std.proofs.Common.{sym, ◌∙◌, ap₂, subst, arith}
use Rattle.std.proofs.Math.Path.{ap}
use mathlib.Core.List.{List, [], ◌∷◌}
use Rattle.polynomials.specs.Poly.{Poly}
use Rattle.polynomials.specs.Division.{degree}
use Rattle.polynomials.specs.Bounds.{over, within}
use Rattle.polynomials.specs.laws.Bounded.{remainder_unbounded}
use Rattle.tables.specs.Read.{good, System, Input}
use Rattle.rules.specs.Branch.{Branch}
use Rattle.rules.specs.Room.{Limits, unlimited, State, polynomials_size, live}
use Rattle.rules.specs.Rule.{Rule, drop, list, split, divide, close, rule_of}
use Rattle.rules.specs.Step.{next, within_room, after_division, remainder_by, divided, closed, with_q, state, replace, apply, step}
use Rattle.rules.specs.Run.{Ended, finished, refused, run_of, first_state}
use Rattle.rules.specs.Written.{list_words}
use Rattle.rules.specs.Eliminate.{limits_of, listed, eliminated}
use Rattle.rules.specs.Cause.{Leads}
use Rattle.rules.proofs.laws.Taken.{remainder_by_is, room_next, within_room_next, after_division_next}
use Rattle.rules.proofs.laws.Calls.{listing}
use Rattle.rules.proofs.laws.Runs.{OverFirst, run_none, run_of_on, run_of_ends}
use Rattle.rules.proofs.laws.WrittenAgain.{listed_delivered}

-- ── a step ──
module _ (l : Limits) where
  room_unlimited : (s s' : State) → within_room l s ≡ next s' → within_room unlimited s ≡ next s'
  unfolding within_room over
  room_unlimited s s' e = ap next (within_room_next l 0 s s' e)

  module _ (p : ℕ) where
    remainder_unlimited : (k : ℕ) (f g r : Poly) → remainder_by l p k f g ≡ within r → remainder_by unlimited p k f g ≡ within r
    unfolding remainder_by
    remainder_unlimited k f g r e = remainder_unbounded p k (degree k f) f (suc (degree k g)) g ∙ ap within (remainder_by_is l p k f g r e)

    module _ (waiting : List Branch) (listed : List System) where
      replace_unlimited : (k : ℕ) (f : Poly) (gs : List Poly) (b : Branch) (s : State) → replace l p waiting listed k f gs b ≡ next s →
          replace unlimited p waiting listed k f gs b ≡ next s
      unfolding replace over
      replace_unlimited k f [] b s e = e
      replace_unlimited k f (g ∷ gs) b s e =
          let d = after_division_next l p (remainder_by l p k f g) _ s e in
          ap (λ x. after_division x (λ r. replace unlimited p waiting listed k f gs (with_q l p r b))) (remainder_unlimited k f g d.0 d.1)
          ∙ replace_unlimited k f gs (with_q l p d.0 b) s
          (room_next (over l.of_room (polynomials_size gs + live (state l p waiting listed (with_q l p d.0 b)))) _ s d.2)

      apply_unlimited : (r : Rule) (b : Branch) (s : State) → apply l p waiting listed r b ≡ next s → apply unlimited p waiting listed r b ≡ next s
      unfolding apply
      apply_unlimited drop b s e = e
      apply_unlimited list b s e = e
      apply_unlimited (split k f) b s e = room_unlimited _ s e
      apply_unlimited (divide k f g) b s e =
          let d = after_division_next l p (remainder_by l p k f.poly g.poly) _ s e in
          ap (λ x. after_division x (λ r. within_room unlimited (state l p waiting listed (divided l p g r b)))) (remainder_unlimited k f.poly g.poly d.0 d.1)
          ∙ room_unlimited (state l p waiting listed (divided l p g d.0 b)) s d.2
      apply_unlimited (close k f) b s e = replace_unlimited k f.poly b.Q (closed l p f b) s e

      step_unlimited : (b : Branch) (s : State) → step l p b waiting listed ≡ next s → step unlimited p b waiting listed ≡ next s
      unfolding step
      step_unlimited b s e = apply_unlimited (rule_of b) b s e

-- ── the run ──
module _ (l : Limits) (p : ℕ) where
  leads_unlimited : (n : ℕ) (s s' : State) → Leads l p n s s' → Leads unlimited p n s s'
  leads_unlimited zero s s' h = h
  leads_unlimited (suc n) s s' h = (h.0, h.1, h.2, h.3, step_unlimited l p h.1 s.systems h.0 h.2 h.4, leads_unlimited n h.2 s' h.5)

-- Without limits the first branch has room.
first_unlimited : (t : Input) → OverFirst unlimited t false
unfolding over
first_unlimited t = refl

pub finished_unlimited : (l : Limits) (limit : ℕ) (t : Input) (n : ℕ) (ss : List System) → run_of l limit t ≡ finished n ss →
    (m : ℕ) → n ≤ m → run_of unlimited m t ≡ finished n ss
finished_unlimited l limit t n ss e m = subst Same e (run_of_ends l t limit Same (λ o. tt) (λ n s b bs o h q u. tt) (λ n s b bs why o h q u f. tt) same)
  where
    Same : Ended → Type 0
    Same (finished n ss) = n ≤ m → run_of unlimited m t ≡ finished n ss
    Same (refused n why) = Unit {0}

    same : (n : ℕ) (s : State) → OverFirst l t false → Leads l t.modulus n (first_state t) s → n ≤ limit → s.branches ≡ [] → Same (finished n s.systems)
    same n s o h q u j =
        run_of_on unlimited t m (first_unlimited t) n (m - n) s (leads_unlimited l t.modulus n (first_state t) s h) (omega (arith, j))
        ∙ run_none unlimited t.modulus n s (m - n) u

pub finished_alike : (l l' : Limits) (limit limit' : ℕ) (t : Input) (n n' : ℕ) (ss ss' : List System) →
    run_of l limit t ≡ finished n ss → run_of l' limit' t ≡ finished n' ss' → (n ≡ n') × (ss ≡ ss')
finished_alike l l' limit limit' t n n' ss ss' e e' =
    let q : finished n ss ≡ finished n' ss' =
    sym (finished_unlimited l limit t n ss e (n + n') (omega arith)) ∙ finished_unlimited l' limit' t n' ss' e' (n + n') (omega arith) in
    (cc, cc)

-- ── calls ──
pub accepted_alike : (w : List ℕ) (work work' output output' limit limit' n n' : ℕ) (ss ss' : List System) (words words' : List ℕ) →
    eliminated w work output limit ≡ listed n ss words → eliminated w work' output' limit' ≡ listed n' ss' words' → (n ≡ n') × (ss ≡ ss') × (words ≡ words')
accepted_alike w work work' output output' limit limit' n n' ss ss' words words' e e' =
    let d = listed_delivered w work output limit n ss words e in
    let d' = listed_delivered w work' output' limit' n' ss' words' e' in
    let q : good d.input ≡ good d'.input = sym d.accepted ∙ d'.accepted in
    let t : d.input ≡ d'.input = cc in
    let same = finished_alike (limits_of work) (limits_of work') limit limit' d.input n n' ss ss' d.ended (ap (run_of (limits_of work') limit') t ∙ d'.ended) in
    (same.0, same.1, d.written ∙ ap₂ (λ t ss. list_words (listing t ss)) t same.1 ∙ sym d'.written)
