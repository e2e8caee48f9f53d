-- The rule or the pivot, by what the survey finds.
use mathlib.Core.Path.{◌≡◌, refl, sym, ap, ap₂, ◌∙◌, subst}
use mathlib.Core.Logic.{◌≢◌}
use mathlib.Core.Bool.{Bool, true, false, ◌||◌, or-true}
use mathlib.Core.List.{List, [], ◌∷◌, map}
use Prim.Native.Nat.{ℕ, ◌-◌, ◌≤◌, ◌<◌}
use native.Mathlib.Omega.{arith}
use lib.ListN.{length}
use Rattle.polynomials.specs.Poly.{Poly}
use Rattle.polynomials.specs.Packed.{terms}
use Rattle.polynomials.specs.laws.Places.{places_terms}
use Rattle.polynomials.specs.laws.Parts.{leader_places}
use Rattle.rules.specs.Branch.{Branch, some_one, some_zero, highest_leader, pivot, other}
use Rattle.survey.specs.declared.Choice.{Choice}
use Rattle.survey.specs.declared.Choice.TheVariants.{Drop, List as Lists, Pivot}
use Rattle.search.specs.Search.{pivot_place}
use Rattle.survey.specs.Survey.{choice, choice_of_p}
use Rattle.polynomials.specs.declared.Term.{Term as Packed}
use Rattle.records.specs.Records.{view}
use Rattle.stored.specs.Stored.{skip_to, polys_at}
use Rattle.branches.specs.declared.Open.{Open}
use Rattle.branches.specs.Area.{Stored, HeldIn, Opened, WhenOpen, with_open}
use Rattle.branches.specs.Open.{open_of}
use Rattle.branches.proofs.OpenLaws.{p_is, end_p_inside, all_p, end_q_inside, all_q}
use Rattle.representation.specs.Represent.{branch_of}
use Rattle.search.specs.Search.{other_place}
use Rattle.std.proofs.lemmas.List.{length-map}
use Rattle.heads.specs.Heads.{AllHold}

abbrev by : Bool → List Poly → Choice
by t fs = elim t [ true ↦ Drop | false ↦ choice_of_p fs ]

choice_one : (b : Branch) → some_one b.P ≡ true → choice b ≡ Drop
unfolding choice
choice_one b e = ap (λ (t : Bool). by (t || some_zero b.Q) b.P) e

choice_zero : (b : Branch) → some_zero b.Q ≡ true → choice b ≡ Drop
unfolding choice
choice_zero b e = ap (λ (t : Bool). by t b.P) (ap (λ (t : Bool). some_one b.P || t) e ∙ or-true (some_one b.P))

choice_other : (b : Branch) → some_one b.P ≡ false → some_zero b.Q ≡ false → choice b ≡ choice_of_p b.P
unfolding choice
choice_other b e f = ap₂ (λ (t u : Bool). by (t || u) b.P) e f

pub choice_list : (fs : List Poly) → length fs ≡ 0 → choice_of_p fs ≡ Lists
choice_list [] h = refl
choice_list (f ∷ fs) h = absurd (omega arith)

pub choice_pivot : (fs : List Poly) (k place : ℕ) → 0 < length fs → k ≡ highest_leader fs - 1 → place ≡ pivot_place k fs → choice_of_p fs ≡ Pivot k place
choice_pivot [] k place h e q = absurd (omega arith)
choice_pivot (f ∷ fs) k place h e q = sym (ap₂ Pivot e (q ∙ ap (λ (j : ℕ). (pivot j f fs).place) e))

pub leaders_at_most_8 : (ss : List (List Packed)) → highest_leader (map terms ss) ≤ 8
unfolding highest_leader
leaders_at_most_8 [] = omega arith
leaders_at_most_8 (s ∷ ss) = omega (arith, leader_places 8 (terms s) (places_terms s), leaders_at_most_8 ss)

-- ── the open branch, by its own record ──
module _ (w : List (List ℕ)) (o : Open) (opens : Opened w) (is : WhenOpen w (λ b bs ss. o ≡ open_of b bs)) where
  pub end_p_in : skip_to (view w) o.first o.p ≤ length w
  end_p_in = omega (arith, end_p_inside opens.3 (is opens.0 opens.1 opens.2 opens.3))

  pub end_q_in : (from : ℕ) → from ≡ skip_to (view w) o.first o.p → skip_to (view w) from o.q ≤ length w
  end_q_in from at = omega (arith, end_q_inside opens.3 (is opens.0 opens.1 opens.2 opens.3) at)

  pub hold_p : WhenOpen w (λ b bs ss. (p : ℕ) × AllHold p b.P) → (p : ℕ) × AllHold p (polys_at (view w) o.first o.p)
  hold_p h =
      let u = h opens.0 opens.1 opens.2 opens.3 in
      (u.0, subst (λ (fs : List (List Packed)). AllHold u.0 fs) (sym (all_p opens.3 (is opens.0 opens.1 opens.2 opens.3))) u.1)

  pub hold_p_of_both : WhenOpen w (λ b bs ss. (p : ℕ) × AllHold p b.P × AllHold p b.Q) → (p : ℕ) × AllHold p (polys_at (view w) o.first o.p)
  hold_p_of_both h = hold_p (λ b bs ss H. let u = h b bs ss H in (u.0, u.1))

module _ (w : List (List ℕ)) {b : Stored} {bs ss : List Stored} (H : HeldIn w (with_open b bs ss)) {o : Open} (is : o ≡ open_of b bs) where
  p_of : map terms (polys_at (view w) o.first o.p) ≡ map terms b.P
  p_of = ap (map terms) (all_p H is)

  pub drop_one : some_one (map terms (polys_at (view w) o.first o.p)) ≡ true → choice (branch_of b) ≡ Drop
  drop_one e = choice_one (branch_of b) (ap some_one (sym p_of) ∙ e)

  pub other_of : (k place : ℕ) → other_place (other k place (map terms (polys_at (view w) o.first o.p))) ≡ other_place (other k place (map terms b.P))
  other_of k place = ap (λ (fs : List Poly). other_place (other k place fs)) p_of

  module _ {from : ℕ} (at : from ≡ skip_to (view w) o.first o.p) where
    q_of : map terms (polys_at (view w) from o.q) ≡ map terms b.Q
    q_of = ap (map terms) (all_q H is at)

    pub drop_zero : some_zero (map terms (polys_at (view w) from o.q)) ≡ true → choice (branch_of b) ≡ Drop
    drop_zero e = choice_zero (branch_of b) (ap some_zero (sym q_of) ∙ e)

    module _ (no_one : some_one (map terms (polys_at (view w) o.first o.p)) ≡ false) (no_zero : some_zero (map terms (polys_at (view w) from o.q)) ≡ false) where
      by_p : choice (branch_of b) ≡ choice_of_p (map terms b.P)
      by_p = choice_other (branch_of b) (ap some_one (sym p_of) ∙ no_one) (ap some_zero (sym q_of) ∙ no_zero)

      pub list_it : o.p ≡ 0 → choice (branch_of b) ≡ Lists
      list_it none = by_p ∙ choice_list (map terms b.P) (omega (arith, length-map b.P terms, p_is H is))

      pub pivot_there : o.p ≢ 0 → choice (branch_of b)
          ≡ Pivot (highest_leader (map terms (polys_at (view w) o.first o.p)) - 1) (pivot_place (highest_leader (map terms (polys_at (view w) o.first o.p)) - 1) (map terms (polys_at (view w) o.first o.p)))
      pivot_there some =
          by_p
          ∙ choice_pivot (map terms b.P) (highest_leader (map terms (polys_at (view w) o.first o.p)) - 1)
          (pivot_place (highest_leader (map terms (polys_at (view w) o.first o.p)) - 1) (map terms (polys_at (view w) o.first o.p)))
          (omega (arith, length-map b.P terms, p_is H is)) (ap (λ (fs : List Poly). highest_leader fs - 1) p_of)
          (ap (pivot_place (highest_leader (map terms (polys_at (view w) o.first o.p)) - 1)) p_of)

-- What the proofs of both functions take.
pub ruleset opened = (end_p_in, end_q_in, hold_p, hold_p_of_both, leaders_at_most_8)
