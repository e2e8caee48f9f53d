-- A run stays within its room: the live count never passes it, so the systems listed take no more records.
use Rattle.std.proofs.Math.Path.{◌≡◌, refl, subst}
use Rattle.std.proofs.Common.{sym}
use mathlib.Core.List.{List, [], ◌∷◌, ◌++◌}
use Rattle.std.specs.Prelude.{Bool, ◌||◌, ℕ, zero, suc, ◌+◌, ◌-◌, ◌≤◌, length}
use Rattle.std.proofs.Math.Bool.{true, false}
use native.Mathlib.Omega.{arith}
use borrow.Author.Tests.{ltb-false}
use Rattle.std.proofs.Math.Dec.{ltb}
use Rattle.polynomials.specs.Poly.{Poly}
use Rattle.polynomials.specs.Division.{initial}
use Rattle.polynomials.specs.Bounds.{at_most, over}
use Rattle.tables.specs.Read.{System, Input}
use Rattle.rules.specs.Branch.{Branch, member, is_one, some_one, some_zero, highest_leader, Chosen, pivot, remove, Found, none, found, other}
use Rattle.rules.specs.Room.{Limits, State, polynomials_size, branch_size, branches_size, systems_size, live}
use Rattle.rules.specs.Rule.{Rule, drop, list, split, divide, close, divide_or_close, rule_with, rule_of_p, rule_of}
use Rattle.rules.specs.Step.{Stepped, next, within_room, split_open, split_aside, divided, closed, with_q, state, remainder_by, replace, apply, step}
use Rattle.rules.specs.Run.{finished, run_of, first_state}
use Rattle.rules.proofs.laws.Lists.{At}
use Rattle.rules.proofs.laws.Pivot.{pivot_stands}
use Rattle.rules.proofs.laws.Taken.{tested, after_division_next}
use Rattle.rules.proofs.laws.Runs.{run_of_steps_keep}

-- ── sizes ──
size_remove : (i : ℕ) (f : Poly) (fs : List Poly) → At i f fs → polynomials_size fs ≡ suc (length f + polynomials_size (remove i fs))
unfolding polynomials_size remove
size_remove i f [] a = absurd a
size_remove zero f (g ∷ fs) a = let s : length f ≡ length g = cc in omega arith
size_remove (suc i) f (g ∷ fs) a = omega (arith, size_remove i f fs a)

size_append : (ss : List System) (s : System) → systems_size (ss ++ (s ∷ [])) ≡ systems_size ss + suc (polynomials_size s.T + polynomials_size s.U)
unfolding systems_size
size_append [] s = omega arith
size_append (u ∷ ss) s = omega (arith, size_append ss s)

-- ── the pivot that rule 5 closes on stands in P ──
abbrev StandsIn : Rule → Branch → Type 0
StandsIn drop b = Unit {0}
StandsIn list b = Unit {0}
StandsIn (split k f) b = Unit {0}
StandsIn (divide k f g) b = Unit {0}
StandsIn (close k f) b = At f.place f.poly b.P

rule_with_stands : (k : ℕ) (f : Chosen) (b : Branch) → At f.place f.poly b.P → StandsIn (rule_with k f b) b
unfolding rule_with
rule_with_stands k f b a = go (is_one (initial k f.poly) || member (initial k f.poly) b.Q)
  where
    of_found : (o : Found) → StandsIn (divide_or_close k f o) b
    of_found none = a
    of_found (found g) = tt

    go : (c : Bool) → StandsIn (elim c as (λ c. Rule) [ true ↦ divide_or_close k f (other k f.place b.P) | false ↦ split k f ]) b
    go true = of_found (other k f.place b.P)
    go false = tt

rule_stands : (b : Branch) → StandsIn (rule_of b) b
unfolding rule_of
rule_stands b = go (some_one b.P || some_zero b.Q)
  where
    of_p : (P : List Poly) → b.P ≡ P → StandsIn (rule_of_p P b) b
    of_p [] q = tt
    of_p (f ∷ fs) q =
        let c = pivot (highest_leader (f ∷ fs) - 1) f fs in
        rule_with_stands (highest_leader (f ∷ fs) - 1) c b (subst (At c.place c.poly) (sym q) (pivot_stands (highest_leader (f ∷ fs) - 1) f fs))

    go : (c : Bool) → StandsIn (elim c as (λ c. Rule) [ true ↦ drop | false ↦ rule_of_p b.P b ]) b
    go true = tt
    go false = of_p b.P refl

-- ── the live count ──
module _ (l : Limits) (m : ℕ) (bound : l.of_room ≡ at_most m) where
  over_room : (n : ℕ) (x : Stepped) (s : State) → tested (over l.of_room n) x ≡ next s → (n ≤ m) × (x ≡ next s)
  unfolding over
  over_room n x s e = go (ltb m n) refl (subst (λ r. tested (over r n) x ≡ next s) bound e)
    where
      go : (c : Bool) → ltb m n ≡ c → tested c x ≡ next s → (n ≤ m) × (x ≡ next s)
      go true q e = let z : ◌≡◌ {A = ℕ} 0 1 = cc in absurd (omega arith)
      go false q e = (ltb-false m n q, e)

  live_within : (s s' : State) → within_room l s ≡ next s' → live s' ≤ m
  unfolding within_room
  live_within s s' e = let u = over_room (live s) (next s) s' e in let q : s ≡ s' = cc in subst (λ (r : State). live r ≤ m) q u.0

  module _ (p : ℕ) (waiting : List Branch) (listed : List System) where
    live_replace : (k : ℕ) (f : Poly) (gs : List Poly) (b : Branch) (s : State) → live (state l p waiting listed b) ≤ m → replace l p waiting listed k f gs b ≡ next s → live s ≤ m
    unfolding replace
    live_replace k f [] b s h e = let q : state l p waiting listed b ≡ s = cc in subst (λ (r : State). live r ≤ m) q h
    live_replace k f (g ∷ gs) b s h e =
        let d = after_division_next l p (remainder_by l p k f g) _ s e in
        let u = over_room (polynomials_size gs + live (state l p waiting listed (with_q l p d.0 b))) (replace l p waiting listed k f gs (with_q l p d.0 b)) s d.2 in
        live_replace k f gs (with_q l p d.0 b) s (omega (arith, u.0)) u.1

    live_apply : (r : Rule) (b : Branch) (s : State) → StandsIn r b → live (state l p waiting listed b) ≤ m → apply l p waiting listed r b ≡ next s → live s ≤ m
    unfolding apply live branch_size branches_size polynomials_size
    live_apply drop b s a h e =
        let q : record { branches = waiting; systems = listed } ≡ s = cc in subst (λ (r : State). live r ≤ m) q (omega arith)
    live_apply list b s a h e =
        let new : System = record { T = b.T; U = b.Q } in
        let q : record { branches = waiting; systems = listed ++ (new ∷ []) } ≡ s = cc in
        subst (λ (r : State). live r ≤ m) q (omega (arith, size_append listed new))
    live_apply (split k f) b s a h e = live_within (record { branches = split_open l p k f b ∷ (split_aside l p k f b ∷ waiting); systems = listed }) s e
    live_apply (divide k f g) b s a h e =
        let d = after_division_next l p (remainder_by l p k f.poly g.poly) _ s e in
        live_within (state l p waiting listed (divided l p g d.0 b)) s d.2
    live_apply (close k f) b s a h e =
        live_replace k f.poly b.Q (closed l p f b) s (omega (arith, size_remove f.place f.poly b.P a)) e

  pub listed_within : (limit : ℕ) (t : Input) (n : ℕ) (ss : List System) → run_of l limit t ≡ finished n ss → systems_size ss ≤ m
  unfolding step over live branches_size
  listed_within limit t n ss e =
      let h : live (record { branches = []; systems = ss }) ≤ m =
      run_of_steps_keep l t (λ s. live s ≤ m) (λ b waiting listed s f h. live_apply t.modulus waiting listed (rule_of b) b s (rule_stands b) h f) limit n ss e
      (λ o. ltb-false m (live (first_state t)) (subst (λ r. over r (live (first_state t)) ≡ false) bound o)) in
      omega arith
