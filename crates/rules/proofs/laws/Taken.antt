-- What a step leaves, rule by rule, with what each rule asks for.
use Rattle.std.specs.Prelude.{◌≡◌, ◌≢◌, Bool, ◌||◌}
use Rattle.std.proofs.Math.Path.{refl, sym, subst}
use Rattle.std.proofs.Common.{◌∙◌, ap, arith}
use mathlib.Core.List.{List, [], ◌∷◌, ◌++◌}
use Rattle.std.proofs.Math.Bool.{true, false}
use Prim.Native.Nat.{ℕ, suc, ◌-◌, ◌+◌}
use Rattle.std.proofs.Math.Dec.{T}
use Rattle.residues.specs.Each.{Each}
use Rattle.polynomials.specs.Poly.{Poly}
use Rattle.polynomials.specs.Division.{degree, leader, initial, remainder}
use Rattle.polynomials.specs.Bounds.{over, Bounded, within, degree_passed, terms_passed}
use Rattle.polynomials.specs.laws.Bounded.{remainder_formed}
use Rattle.tables.specs.Read.{System}
use Rattle.tables.specs.declared.Reason.TheVariants.{Room}
use Rattle.rules.specs.Branch.{Branch, put_q, member, is_one, some_one, some_zero, highest_leader, Chosen, pivot, remove, Found, none, found, other}
use Rattle.rules.specs.Room.{Limits, State, polynomials_size, live}
use Rattle.rules.specs.Rule.{Rule, drop, split, rule_of, rule_of_p, rule_with, divide_or_close}
use Rattle.rules.specs.Step.{Stepped, next, stopped, within_room, after_division, remainder_by, split_open, split_aside, divided, closed, with_q, state, replace, apply, step}
use Rattle.rules.proofs.laws.Lists.{At}
use Rattle.rules.proofs.laws.Pivot.{pivot_stands, pivot_leads, OtherIs, other_is}

-- ── what a step leaves ──
-- The pivot of a branch that rule 1 does not drop, in v(k+1).
pub record Pivot (k : ℕ) (f : Chosen) (b : Branch) : Type 0 where
  pub not_dropped : some_one b.P || some_zero b.Q ≡ false
  pub stands : At f.place f.poly b.P
  pub highest : highest_leader b.P - 1 ≡ k
  pub leads : leader f.poly ≡ highest_leader b.P

-- Its initial is 1 or in Q.
abbrev pub Settled : ℕ → Chosen → Branch → Type 0
Settled k f b = T (is_one (initial k f.poly) || member (initial k f.poly) b.Q)

-- What rule 5 makes of the branch, with its new Q.
abbrev pub after_close : Chosen → List Poly → Branch → Branch
after_close f Q b = record { P = remove f.place b.P; Q = Q; T = f.poly ∷ b.T }

-- What follows a test of the room.
abbrev pub tested : Bool → Stepped → Stepped
tested c x = elim c as (λ c. Stepped) [ true ↦ stopped Room | false ↦ x ]

-- What it lets through.
pub room_next : (c : Bool) (x : Stepped) (s : State) → tested c x ≡ next s → x ≡ next s
room_next true x s e = let z : ◌≡◌ {A = ℕ} 0 1 = cc in absurd (omega arith)
room_next false x s e = e

pub within_room_is : (l : Limits) (s : State) (c : Bool) → over l.of_room (live s) ≡ c → within_room l s ≡ tested c (next s)
unfolding within_room
within_room_is l s c e = ap (λ (c : Bool). tested c (next s)) e

module _ (l : Limits) (p : ℕ) where
  -- Out of the list gs and the new Q so far, the whole new Q: remainders by f are put.
  abbrev pub Replaced : ℕ → Poly → List Poly → List Poly → List Poly → Type 0
  Replaced k f [] Q Q' = Q ≡ Q'
  Replaced k f (g ∷ gs) Q Q' = (r : Poly) × (remainder_by l p k f g ≡ within r) × Replaced k f gs (put_q p r Q) Q'

  -- A remainder formed within bounds is the remainder.
  pub remainder_by_is : (k : ℕ) (f g r : Poly) → remainder_by l p k f g ≡ within r → remainder p k (degree k f) f (suc (degree k g)) g ≡ r
  unfolding remainder_by
  remainder_by_is k f g r e = sym (remainder_formed l.bounds p k (degree k f) f (suc (degree k g)) g r e).0

  pub data Taken (b : Branch) (waiting : List Branch) (listed : List System) : State → Type 0 where
    by_drop : T (some_one b.P || some_zero b.Q) → Taken b waiting listed (record { branches = waiting; systems = listed })
    by_list : b.P ≡ [] → Taken b waiting listed (record { branches = waiting; systems = listed ++ (record { T = b.T; U = b.Q } ∷ []) })
    by_split : (k : ℕ) (f : Chosen) → Pivot k f b →
        Taken b waiting listed (record { branches = split_open l p k f b ∷ (split_aside l p k f b ∷ waiting); systems = listed })
    by_divide : (k : ℕ) (f g : Chosen) (r : Poly) → Pivot k f b → Settled k f b → At g.place g.poly b.P → f.place ≢ g.place →
        leader g.poly ≡ suc k → remainder_by l p k f.poly g.poly ≡ within r →
        Taken b waiting listed (record { branches = divided l p g r b ∷ waiting; systems = listed })
    by_close : (k : ℕ) (f : Chosen) (Q : List Poly) → Pivot k f b → Settled k f b → Each (λ g. leader g ≢ suc k) (remove f.place b.P) →
        Replaced k f.poly b.Q [] Q →
        Taken b waiting listed (record { branches = after_close f Q b ∷ waiting; systems = listed })

  pub within_room_next : (s s' : State) → within_room l s ≡ next s' → s ≡ s'
  unfolding within_room
  within_room_next s s' e = let q : next s ≡ next s' = room_next (over l.of_room (live s)) (next s) s' e in cc

  pub after_division_next : (x : Bounded) (k : Poly → Stepped) (s : State) → after_division x k ≡ next s → (r : Poly) × (x ≡ within r) × (k r ≡ next s)
  after_division_next (within r) k s e = (r, refl, e)
  after_division_next degree_passed k s e = ([], cc, cc)
  after_division_next terms_passed k s e = ([], cc, cc)

  module _ (waiting : List Branch) (listed : List System) where
    replace_next : (k : ℕ) (f : Poly) (gs : List Poly) (b : Branch) (s : State) → replace l p waiting listed k f gs b ≡ next s →
        (Q : List Poly) × Replaced k f gs b.Q Q × (record { branches = record { P = b.P; Q = Q; T = b.T } ∷ waiting; systems = listed } ≡ s)
    unfolding replace
    replace_next k f [] b s e = (b.Q, refl, cc)
    replace_next k f (g ∷ gs) b s e =
        let d = after_division_next (remainder_by l p k f g) _ s e in
        let u = replace_next k f gs (with_q l p d.0 b) s (room_next (over l.of_room (polynomials_size gs + live (state l p waiting listed (with_q l p d.0 b)))) _ s d.2) in
        (u.0, (d.0, d.1, u.1), u.2)

    module _ (b : Branch) (s : State) where
      close_taken : (k : ℕ) (f : Chosen) → Pivot k f b → Settled k f b → Each (λ g. leader g ≢ suc k) (remove f.place b.P) →
          replace l p waiting listed k f.poly b.Q (closed l p f b) ≡ next s → Taken b waiting listed s
      close_taken k f v y u e =
          let d = replace_next k f.poly b.Q (closed l p f b) s e in
          subst (Taken b waiting listed) d.2 (by_close k f d.0 v y u d.1)

      divide_taken : (k : ℕ) (f g : Chosen) → Pivot k f b → Settled k f b → At g.place g.poly b.P → f.place ≢ g.place → leader g.poly ≡ suc k →
          after_division (remainder_by l p k f.poly g.poly) (λ r. within_room l (state l p waiting listed (divided l p g r b))) ≡ next s → Taken b waiting listed s
      divide_taken k f g v y a n h e =
          let d = after_division_next (remainder_by l p k f.poly g.poly) _ s e in
          subst (Taken b waiting listed) (within_room_next (state l p waiting listed (divided l p g d.0 b)) s d.2) (by_divide k f g d.0 v y a n h d.1)

      divide_or_close_taken : (k : ℕ) (f : Chosen) → Pivot k f b → Settled k f b → (o : Found) → OtherIs k f.place b.P o →
          apply l p waiting listed (divide_or_close k f o) b ≡ next s → Taken b waiting listed s
      unfolding apply
      divide_or_close_taken k f v y none u e = close_taken k f v y u e
      divide_or_close_taken k f v y (found g) u e = divide_taken k f g v y u.0 u.1 u.2 e

      rule_with_taken : (k : ℕ) (f : Chosen) → Pivot k f b → apply l p waiting listed (rule_with k f b) b ≡ next s → Taken b waiting listed s
      unfolding rule_with apply
      rule_with_taken k f v e = go (is_one (initial k f.poly) || member (initial k f.poly) b.Q) (λ y. y) e
        where
          go : (c : Bool) → (T c → Settled k f b) →
              apply l p waiting listed (elim c as (λ c. Rule) [ true ↦ divide_or_close k f (other k f.place b.P) | false ↦ split k f ]) b ≡ next s → Taken b waiting listed s
          go true y e = divide_or_close_taken k f v (y tt) (other k f.place b.P) (other_is k f.place b.P) e
          go false y e = subst (Taken b waiting listed) (within_room_next _ s e) (by_split k f v)

      rule_of_p_taken : some_one b.P || some_zero b.Q ≡ false → (P : List Poly) → b.P ≡ P → apply l p waiting listed (rule_of_p P b) b ≡ next s → Taken b waiting listed s
      unfolding apply
      rule_of_p_taken d [] q e = subst (Taken b waiting listed) (cc) (by_list q)
      rule_of_p_taken d (f ∷ fs) q e = rule_with_taken k c (record { not_dropped = d; stands = stands; highest = highest; leads = leads }) e
        where
          k : ℕ
          k = highest_leader (f ∷ fs) - 1

          c : Chosen
          c = pivot k f fs

          stands : At c.place c.poly b.P
          stands = subst (At c.place c.poly) (sym q) (pivot_stands k f fs)

          highest : highest_leader b.P - 1 ≡ k
          highest = ap (λ (P : List Poly). highest_leader P - 1) q

          leads : leader c.poly ≡ highest_leader b.P
          leads = pivot_leads f fs ∙ ap highest_leader (sym q)

      pub step_taken : step l p b waiting listed ≡ next s → Taken b waiting listed s
      unfolding step rule_of apply
      step_taken e = go (some_one b.P || some_zero b.Q) refl e
        where
          go : (c : Bool) → some_one b.P || some_zero b.Q ≡ c →
              apply l p waiting listed (elim c as (λ c. Rule) [ true ↦ drop | false ↦ rule_of_p b.P b ]) b ≡ next s → Taken b waiting listed s
          go true d e = subst (Taken b waiting listed) (cc) (by_drop (subst T (sym d) tt))
          go false d e = rule_of_p_taken d b.P refl e
