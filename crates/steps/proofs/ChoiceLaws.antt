-- What the survey chose is the rule that fits, and a pivot is led by its variable.
use mathlib.Core.Path.{◌≡◌, refl, sym, ap, ap₂, ◌∙◌}
use mathlib.Core.Logic.{◌≢◌}
use mathlib.Core.Bool.{Bool, true, false, ◌||◌}
use mathlib.Core.List.{List, [], ◌∷◌, map, reverse}
use Prim.Native.Nat.{ℕ, zero, suc, ◌-◌, ◌≤◌, ◌<◌, max}
use native.Mathlib.Omega.{arith}
use lib.ListN.{length, get_or}
use Rattle.residues.specs.Each.{Each}
use Rattle.residues.specs.laws.Booleans.{true_of}
use Rattle.polynomials.specs.Poly.{Poly}
use Rattle.polynomials.specs.Canonical.{Canonical}
use Rattle.polynomials.specs.Division.{leader}
use Rattle.polynomials.specs.Packed.{terms}
use Rattle.polynomials.specs.laws.Bounds.{or_false_both}
use Rattle.polynomials.specs.laws.Places.{Places, places_terms}
use Rattle.rules.specs.Branch.{Branch, Chosen, some_one, some_zero, is_one, highest_leader, pivot}
use Rattle.rules.specs.Rule.{Rule, drop, list, rule_with, rule_of, rule_of_p}
use Rattle.rules.specs.Step.{Stepped, step, apply}
use Rattle.rules.specs.Room.{Limits}
use Rattle.rules.proofs.laws.Lists.{At}
use Rattle.rules.proofs.laws.Pivot.{pivot_stands, pivot_leads}
use Rattle.rules.proofs.laws.Rising as rising
use Rattle.branches.specs.Area.{Stored, with_open}
use Rattle.survey.specs.Survey.{choice, choice_of_p}
use Rattle.survey.proofs.Choices.{leaders_at_most_8}
use Rattle.survey.specs.declared.Choice.{Choice}
use Rattle.survey.specs.declared.Choice.TheVariants.{Drop, List as Lists, Pivot}
use Rattle.representation.specs.Represent.{Sound, AllSound, branch_of, system_of, chosen, Monic, AllMonic}
use Rattle.representation.specs.laws.Steps.{chosen_at}
use Rattle.representation.specs.Ready.{Ready}
use Rattle.steps.specs.Pending.{Leads}
use Rattle.polynomials.specs.declared.Term.{Term as Packed}

-- A monic polynomial without a leading variable is 1.
constant_is_one : (p n : ℕ) (f : Poly) → Canonical p f → Places n f → Monic f → f ≢ [] → leader f ≡ 0 → is_one f ≡ true
constant_is_one p n [] c u m z h = absurd (z refl)
constant_is_one p n (t ∷ f) c u m z h = sym (true_of (is_one (t ∷ f)) (rising.constant_is_one p n (t ∷ f) c u m h))

-- ── the highest leading variable ──
terms_none : (f : List Packed) → terms f ≡ [] → f ≡ []
unfolding terms
terms_none [] e = refl
terms_none (t ∷ f) e = cc

some_leader : (p : ℕ) (f : List Packed) (fs : List (List Packed)) → Sound p f → Monic (terms f) → f ≢ [] → some_one (map terms (f ∷ fs)) ≡ false → 1 ≤ highest_leader (map terms (f ∷ fs))
unfolding highest_leader some_one
some_leader p f fs s m z e = go (leader (terms f)) refl
  where
    go : (n : ℕ) → leader (terms f) ≡ n → 1 ≤ max (leader (terms f)) (highest_leader (map terms fs))
    go zero q =
        let o = constant_is_one p 8 (terms f) s.holds.canonical (places_terms f) m (λ y. z (terms_none f y)) q in
        let c : true ≡ false = ap (λ b. b || some_one (map terms fs)) (sym o) ∙ e in
        let y : ◌≡◌ {A = ℕ} 0 1 = cc in absurd (omega arith)
    go (suc n) q = omega arith

pub at_inside : (i : ℕ) (f : Poly) (fs : List (List Packed)) → At i f (map terms fs) → i < length fs
at_inside i f [] a = absurd a
at_inside zero f (g ∷ fs) a = omega arith
at_inside (suc i) f (g ∷ fs) a = omega (arith, at_inside i f fs a)

-- ── the rule ──
-- 0 is not 1.
no : {A : Type 0} → ◌≡◌ {A = ℕ} 0 1 → A
no z = absurd (omega arith)

-- A branch that has 1 in P or 0 in Q is dropped.
abbrev choice_if : Bool → Choice → Choice
choice_if o q = elim o as (λ o. Choice) [ true ↦ Drop | false ↦ q ]

abbrev rule_if : Bool → Rule → Rule
rule_if o r = elim o as (λ o. Rule) [ true ↦ drop | false ↦ r ]

pub chosen_drop : (b : Branch) → choice b ≡ Drop → rule_of b ≡ drop
unfolding choice rule_of
chosen_drop b e = go (some_one b.P || some_zero b.Q) b.P e
  where
    go : (o : Bool) (P : List Poly) → choice_if o (choice_of_p P) ≡ Drop → rule_if o (rule_of_p P b) ≡ drop
    go true P e = refl
    go false [] e = no cc
    go false (f ∷ fs) e = no cc

pub chosen_list : (b : Branch) → choice b ≡ Lists → (rule_of b ≡ list) × (b.P ≡ [])
unfolding choice rule_of
chosen_list b e = go (some_one b.P || some_zero b.Q) b.P e
  where
    go : (o : Bool) (P : List Poly) → choice_if o (choice_of_p P) ≡ Lists → (rule_if o (rule_of_p P b) ≡ list) × (P ≡ [])
    go true P e = no cc
    go false [] e = (refl, refl)
    go false (f ∷ fs) e = no cc

module _ (p k i : ℕ) where
  abbrev ChosenPivot : Stored → Type 0
  ChosenPivot b = (rule_of (branch_of b) ≡ rule_with k (chosen b i) (branch_of b)) × Leads k i b

  pub chosen_pivot : (P Q T : List (List Packed)) → AllSound p P → AllMonic P → Each (λ f. f ≢ []) P
      → choice (branch_of (record { P = P; Q = Q; T = T })) ≡ Pivot k i → ChosenPivot (record { P = P; Q = Q; T = T })
  unfolding choice rule_of
  chosen_pivot [] Q T s m z e = no (go (some_one [] || some_zero (map terms Q)) e)
    where
      go : (o : Bool) → choice_if o Lists ≡ Pivot k i → ◌≡◌ {A = ℕ} 0 1
      go true e = cc
      go false e = cc
  chosen_pivot (f ∷ fs) Q T s m z e = go (some_one (map terms (f ∷ fs)) || some_zero (map terms Q)) refl e
    where
      b : Stored
      b = record { P = f ∷ fs; Q = Q; T = T }

      h : ℕ
      h = highest_leader (map terms (f ∷ fs))

      c : Chosen
      c = pivot (h - 1) (terms f) (map terms fs)

      led : c.place ≡ i → c ≡ chosen b c.place → leader (terms (get_or (f ∷ fs) i [])) ≡ h
      led ei at =
          ap (λ (i : ℕ). leader (terms (get_or (f ∷ fs) i []))) (sym ei) ∙ ap (λ (d : Chosen). leader d.poly) (sym at) ∙ pivot_leads (terms f) (map terms fs)

      go : (o : Bool) → (some_one (map terms (f ∷ fs)) || some_zero (map terms Q)) ≡ o → choice_if o (Pivot (h - 1) c.place) ≡ Pivot k i
          → (rule_if o (rule_with (h - 1) c (branch_of b)) ≡ rule_with k (chosen b i) (branch_of b)) × Leads k i b
      go true q e = no cc
      go false q e =
          let ek : h - 1 ≡ k = cc in
          let ei : c.place ≡ i = cc in
          let stands = pivot_stands (h - 1) (terms f) (map terms fs) in
          let at : c ≡ chosen b c.place = chosen_at b c stands in
          let low = some_leader p f fs s.0 m.0 z.0 (or_false_both (some_one (map terms (f ∷ fs))) (some_zero (map terms Q)) q).0 in
          let high = leaders_at_most_8 (f ∷ fs) in
          let inside = at_inside c.place c.poly (f ∷ fs) stands in
          let same = ap (λ (d : Chosen). rule_with (h - 1) d (branch_of b)) at ∙ ap₂ (λ (k i : ℕ). rule_with k (chosen b i) (branch_of b)) ek ei in
          (same, (omega (arith, ek, low, high), omega (arith, inside, ei), omega (arith, led ei at, ek, low)))

-- ── rules 1 and 2 ──
module _ (l : Limits) (p : ℕ) (b : Stored) (bs ss : List Stored) where
  abbrev stepped : Rule → Stepped
  stepped r = apply l p (map branch_of bs) (reverse (map system_of ss)) r (branch_of b)

  pub step_by : (r : Rule) → rule_of (branch_of b) ≡ r → step l p (branch_of b) (map branch_of bs) (reverse (map system_of ss)) ≡ stepped r
  unfolding step
  step_by r e = ap stepped e

  module _ (R : Ready p (with_open b bs ss)) where
    pub ready_dropped : Ready p (record { branches = bs; systems = ss })
    ready_dropped = record {
      sound = record { branches = R.sound.branches.1; systems = R.sound.systems };
      monic = R.monic.1;
      nonzero = R.nonzero.1;
      listed = R.listed;
    }

    pub ready_listed : b.P ≡ [] → Ready p (record { branches = bs; systems = b ∷ ss })
    ready_listed e = record {
      sound = record { branches = R.sound.branches.1; systems = (R.sound.branches.0, R.sound.systems) };
      monic = R.monic.1;
      nonzero = R.nonzero.1;
      listed = (e, R.listed);
    }

pub map_none : (P : List (List Packed)) → map terms P ≡ [] → P ≡ []
map_none [] e = refl
map_none (f ∷ fs) e = no cc
