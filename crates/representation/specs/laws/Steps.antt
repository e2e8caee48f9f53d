-- What is done to the stored branches at each rule is what the rule does to the state that they hold, and there is room for it where the
-- rules find room. The replacing of Q at rule 5 stands in `Replaced`.
use Rattle.std.specs.Prelude.{◌≡◌, Bool, true, false, not, ℕ, zero, suc, ◌+◌, ◌-◌, ◌≤◌, leb, get_or}
use Rattle.std.proofs.Math.Path.{refl, ap}
use Rattle.std.proofs.Common.{sym, ◌∙◌}
use mathlib.Core.List.{List, [], ◌∷◌, map, reverse, reverse-cons}
use Rattle.polynomials.specs.Poly.{Poly, monic}
use Rattle.polynomials.specs.Packed.{terms}
use Rattle.polynomials.specs.Division.{initial, rest}
use Rattle.polynomials.specs.Bounds.{Bound, at_most, over}
use Rattle.tables.specs.Read.{System}
use Rattle.tables.specs.declared.Reason.TheVariants.{Room}
use Rattle.rules.specs.Branch as rules
use Rattle.rules.specs.Branch.{Chosen}
use Rattle.rules.specs.Room.{Limits, live}
use Rattle.rules.specs.Rule.{drop, list, split}
use Rattle.rules.specs.Step.{Stepped, next, stopped, within_room, split_open, split_aside, divided, state, apply}
use Rattle.rules.proofs.laws.Lists.{At}
use Rattle.branches.specs.Words.{put_p, put_q_before, remove}
use Rattle.branches.specs.laws.Words.{put_q_before_none, each_remove}
use Rattle.branches.specs.Area.{Stored, Area, size, with_open, put_into_p, without_p, split_area}
use Rattle.representation.specs.Represent.{AllListed, branch_of, system_of, state_of, chosen, Sound, BranchSound}
use Rattle.representation.specs.laws.Lists.{map_remove, map_put_p, map_put_q, each_put_p}
use Rattle.representation.specs.laws.Sizes.{room_of_count, size_live}
use Rattle.polynomials.specs.declared.Term.{Term as Packed}

-- ── room ──
-- What follows where there is room.
abbrev pub if_fits : Bool → Stepped → Stepped
if_fits true x = x
if_fits false x = stopped Room

-- The room is one record less than the work area's: the control record's.
pub tested_room : (l : Limits) (most : ℕ) → l.of_room ≡ at_most (most - 1) → 1 ≤ most → (n m : ℕ) → m ≡ 1 + n → (x : Stepped) →
    elim (over l.of_room n) as (λ b. Stepped) [ true ↦ stopped Room | false ↦ x ] ≡ if_fits (leb m most) x
tested_room l most bound some n m e x =
    go (over l.of_room n) ∙ ap (λ b. if_fits b x) (ap (λ (r : Bound). not (over r n)) bound ∙ sym (room_of_count most n m some e))
  where
    go : (b : Bool) → elim b as (λ b. Stepped) [ true ↦ stopped Room | false ↦ x ] ≡ if_fits (not b) x
    go true = refl
    go false = refl

pub within_room_fits : (l : Limits) (most : ℕ) → l.of_room ≡ at_most (most - 1) → 1 ≤ most → (a : Area) → AllListed a.systems →
    within_room l (state_of a) ≡ if_fits (leb (size a) most) (next (state_of a))
unfolding within_room
within_room_fits l most bound some a h = tested_room l most bound some (live (state_of a)) (size a) (size_live a h) (next (state_of a))

-- ── the rules ──
member_at : (i : ℕ) (f : Poly) (fs : List (List Packed)) → At i f (map terms fs) → f ≡ terms (get_or fs i [])
member_at i f [] a = absurd a
member_at zero f (g ∷ fs) a = a
member_at (suc i) f (g ∷ fs) a = member_at i f fs a

pub chosen_at : (b : Stored) (c : Chosen) → At c.place c.poly (branch_of b).P → c ≡ chosen b c.place
chosen_at b c a = λ t. record { place = c.place; poly = member_at c.place c.poly b.P a t }

module _ (l : Limits) (p : ℕ) (b : Stored) (bs ss : List Stored) where
  -- 1.
  pub drop_state : apply l p (map branch_of bs) (reverse (map system_of ss)) drop (branch_of b) ≡ next (state_of (record { branches = bs; systems = ss }))
  unfolding apply
  drop_state = refl

  -- 2.
  pub list_state : apply l p (map branch_of bs) (reverse (map system_of ss)) list (branch_of b) ≡ next (state_of (record { branches = bs; systems = b ∷ ss }))
  unfolding apply
  list_state =
      ap (λ (rs : List System). next (record { branches = map branch_of bs; systems = rs })) (sym (reverse-cons (system_of b) (map system_of ss)))

  -- 3. The initial of a monic pivot is monic (`Monics`).
  module _ (sound : BranchSound p b) (k i : ℕ) (ini rst : List Packed) (sound_ini : Sound p ini) (sound_rst : Sound p rst)
      (of_ini : terms ini ≡ initial k (chosen b i).poly) (own : monic p (initial k (chosen b i).poly) ≡ initial k (chosen b i).poly)
      (of_rst : terms rst ≡ monic p (rest k (chosen b i).poly)) where
    split_state : state_of (split_area i ini rst b bs ss) ≡ record {
      branches = split_open l p k (chosen b i) (branch_of b) ∷ (split_aside l p k (chosen b i) (branch_of b) ∷ map branch_of bs);
      systems = reverse (map system_of ss);
    }
    split_state = λ t. record {
      branches = record { P = map terms b.P; Q = in_q t; T = map terms b.T } ∷ (record { P = in_p t; Q = map terms b.Q; T = map terms b.T } ∷ map branch_of bs);
      systems = reverse (map system_of ss);
    }
      where
        monic_ini : terms ini ≡ monic p (initial k (chosen b i).poly)
        monic_ini = of_ini ∙ sym own

        in_q : map terms (put_q_before 0 ini b.Q) ≡ rules.put_q p (initial k (chosen b i).poly) (map terms b.Q)
        in_q = ap (map terms) (put_q_before_none ini b.Q) ∙ map_put_q p ini (initial k (chosen b i).poly) sound_ini monic_ini b.Q sound.in_q

        in_p : map terms (put_p rst (put_p ini (remove i b.P))) ≡ rules.put_p p (rest k (chosen b i).poly) (rules.put_p p (initial k (chosen b i).poly) (rules.remove i (map terms b.P)))
        in_p =
            let left = each_remove (Sound p) i b.P sound.in_p in
            map_put_p p rst (rest k (chosen b i).poly) sound_rst of_rst (put_p ini (remove i b.P)) (each_put_p (Sound p) ini (remove i b.P) sound_ini left)
            ∙ ap (rules.put_p p (rest k (chosen b i).poly))
            (map_put_p p ini (initial k (chosen b i).poly) sound_ini monic_ini (remove i b.P) left ∙ ap (rules.put_p p (initial k (chosen b i).poly)) (map_remove i b.P))

    pub apply_split : (most : ℕ) → l.of_room ≡ at_most (most - 1) → 1 ≤ most → AllListed ss →
        apply l p (map branch_of bs) (reverse (map system_of ss)) (split k (chosen b i)) (branch_of b)
        ≡ if_fits (leb (size (split_area i ini rst b bs ss)) most) (next (state_of (split_area i ini rst b bs ss)))
    unfolding apply
    apply_split most bound some h = ap (within_room l) (sym split_state) ∙ within_room_fits l most bound some (split_area i ini rst b bs ss) h

  -- 4.
  module _ (sound : BranchSound p b) (g : Chosen) (r : List Packed) (R : Poly) (sound_r : Sound p r) (of_r : terms r ≡ monic p R) where
    pub divide_state : state_of (with_open (put_into_p r (without_p g.place b)) bs ss) ≡
        state l p (map branch_of bs) (reverse (map system_of ss)) (divided l p g R (branch_of b))
    divide_state = λ t. record {
      branches = record { P = in_p t; Q = map terms b.Q; T = map terms b.T } ∷ map branch_of bs;
      systems = reverse (map system_of ss);
    }
      where
        in_p : map terms (put_p r (remove g.place b.P)) ≡ rules.put_p p R (rules.remove g.place (map terms b.P))
        in_p =
            map_put_p p r R sound_r of_r (remove g.place b.P) (each_remove (Sound p) g.place b.P sound.in_p)
            ∙ ap (rules.put_p p R) (map_remove g.place b.P)
