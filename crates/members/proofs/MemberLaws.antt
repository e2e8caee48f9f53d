-- What is left of a step while its members are divided: a member is taken, and its remainder is put.
use mathlib.Core.Path.{◌≡◌, refl, sym, ap, ap₂, subst, ◌∙◌}
use mathlib.Core.Bool.{true, false}
use mathlib.Core.List.{List, [], ◌∷◌, ◌++◌, map, reverse}
use Prim.Native.Nat.{ℕ, zero, suc, ◌+◌, ◌-◌, ◌≤◌}
use native.Mathlib.Omega.{arith}
use lib.Dec.{leb}
use lib.ListN.{length, get_or, take, drop, length-drop, length-append}
use lib.Seq.{drop-cons, split_at, take_at, drop_at, length-take-le}
use Rattle.residues.specs.laws.Each.{each_append}
use Rattle.polynomials.specs.Poly.{Poly, monic}
use Rattle.polynomials.specs.Packed.{terms}
use Rattle.polynomials.specs.Bounds.{Bounded, within, over, at_most}
use Rattle.rules.specs.Room.{State, Limits, live, polynomials_size}
use Rattle.tables.specs.declared.Reason.TheVariants.{Room}
use Rattle.rules.specs.Branch.{Branch}
use Rattle.rules.specs.Step.{Stepped, stopped, within_room, after_division, remainder_by, divided, with_q, state, replace}
use Rattle.branches.specs.Words.{put_q}
use Rattle.branches.specs.Area.{Stored, size, with_open, put_into_p, put_into_q, without_p, without_q}
use Rattle.representation.specs.Represent.{Sound, AllSound, BranchSound, AllListed, branch_of, system_of, chosen, with_new}
use Rattle.representation.specs.laws.Steps.{if_fits, tested_room, within_room_fits, divide_state}
use Rattle.representation.specs.laws.Replaced.{turned, turned_q, turned_size, with_new_turned}
use Rattle.members.specs.declared.Dividends.{Dividends}
use Rattle.members.specs.declared.Dividends.TheVariants.{InP, InQ}
use Rattle.members.specs.Members.{HasLeft, HasMembers, next_member, taken_out, put_in, rest_of_step}
use Rattle.polynomials.specs.declared.Term.{Term as Packed}

module _ (l : Limits) (p k : ℕ) (f : Poly) (b : Stored) (bs ss : List Stored) where
  abbrev pub after : Branch → State
  after B = state l p (map branch_of bs) (reverse (map system_of ss)) B

  abbrev pub replace_in : List (List Packed) → Branch → Stepped
  replace_in old B = replace l p (map branch_of bs) (reverse (map system_of ss)) k f (map terms old) B

  -- The remainder r behind those of the members of Q before the next one.
  abbrev pub with_remainder : ℕ → Poly → Branch
  with_remainder left r = with_q l p r (with_new b (take (length b.Q - left) b.Q))

  -- What follows the division of the next member.
  abbrev pub onward : Dividends → ℕ → Poly → Stepped
  onward (InP place) left r = within_room l (after (divided l p (chosen b place) r (branch_of b)))
  onward (InQ n) left r =
      let old = drop (suc (length b.Q - left)) b.Q in
      elim (over l.of_room (polynomials_size (map terms old) + live (after (with_remainder left r)))) [
        | true ↦ stopped Room
        | false ↦ replace_in old (with_remainder left r)
      ]

  -- The branch c is left, and the step goes on if there is room for it.
  abbrev goes_on_with : ℕ → Dividends → ℕ → Stored → Stepped
  goes_on_with most d left c = if_fits (leb (size (with_open c bs ss)) most) (rest_of_step l p d left k f c bs ss)

  -- r is put in the place of the next member.
  abbrev renewed : Dividends → ℕ → List Packed → Stored
  renewed d left r = put_in d (left - 1) r (taken_out d left b)

  pub takes : (d : Dividends) (left : ℕ) → 1 ≤ left → HasLeft d left b
      → rest_of_step l p d left k f b bs ss ≡ after_division (remainder_by l p k f (terms (next_member d left b))) (onward d left)
  unfolding rest_of_step replace
  takes (InP place) zero h u = absurd (omega arith)
  takes (InP place) (suc n) h u = refl
  takes (InQ n) left h u =
      ap (λ (gs : List (List Packed)). replace_in gs (with_new b (take (length b.Q - left) b.Q)))
      (drop-cons b.Q (length b.Q - left) [] (omega (arith, u.0, u.1)))

  -- Rule 4: the remainder R is put as the words r.
  puts_p : (place : ℕ) (r : List Packed) (R : Poly) (most : ℕ) → l.of_room ≡ at_most (most - 1) → 1 ≤ most → AllListed ss → BranchSound p b
      → Sound p r → terms r ≡ monic p R → onward (InP place) 1 R ≡ goes_on_with most (InP place) 0 (renewed (InP place) 1 r)
  unfolding rest_of_step
  puts_p place r R most bound some h s u e =
      ap (within_room l) (sym (divide_state l p b bs ss s (chosen b place) r R u e))
      ∙ within_room_fits l most bound some (with_open (put_into_p r (without_p place b)) bs ss) h

  -- Rule 5: so is each remainder, before the members that are left.
  module _ (q left : ℕ) (some_left : 1 ≤ left) (there : left ≤ length b.Q) (r : List Packed) (R : Poly) (u : Sound p r) (e : terms r ≡ monic p R)
      (s : BranchSound p b) where
    abbrev j : ℕ
    j = length b.Q - left

    abbrev new : List (List Packed)
    new = take j b.Q

    abbrev old : List (List Packed)
    old = drop (suc j) b.Q

    parts : b.Q ≡ new ++ (get_or b.Q j [] ∷ old)
    parts = split_at b.Q j [] (omega (arith, some_left, there))

    length_old : length old ≡ left - 1
    length_old = omega (arith, length-drop (suc j) b.Q, some_left, there)

    sound_new : AllSound p new
    sound_new = ((each_append (Sound p) new (get_or b.Q j [] ∷ old)).0 (subst (AllSound p) parts s.in_q)).0

    same : turned b new r old ≡ renewed (InQ q) left r
    same = ap₂ (λ (n m : ℕ). put_into_q n r (without_q m b)) length_old (length-take-le j b.Q (omega arith))

    rest_is : rest_of_step l p (InQ q) (left - 1) k f (turned b new r old) bs ss ≡ replace_in old (with_remainder left R)
    unfolding rest_of_step
    rest_is =
        let put = put_q r new in
        let n = length (put ++ old) - (left - 1) in
        let to : length put ≡ n = omega (arith, length-append put old, length_old) in
        ap (λ (fs : List (List Packed)). replace_in (drop (length fs - (left - 1)) fs) (with_new b (take (length fs - (left - 1)) fs)))
        (turned_q l p b bs ss new (get_or b.Q j []) old parts r)
        ∙ ap₂ (λ (fs gs : List (List Packed)). replace_in fs (with_new b gs)) (drop_at put old n to) (take_at put old n to)
        ∙ ap (replace_in old) (with_new_turned l p b bs ss new (get_or b.Q j []) old parts r R u e sound_new)

    puts_q : (most : ℕ) → l.of_room ≡ at_most (most - 1) → 1 ≤ most → AllListed ss
        → onward (InQ q) left R ≡ goes_on_with most (InQ q) (left - 1) (renewed (InQ q) left r)
    puts_q most bound some h =
        let needed = polynomials_size (map terms old) + live (after (with_remainder left R)) in
        let needs_it = turned_size l p b bs ss new (get_or b.Q j []) old parts r R u e sound_new h in
        tested_room l most bound some needed (size (with_open (turned b new r old) bs ss)) needs_it (replace_in old (with_remainder left R))
        ∙ ap (if_fits (leb (size (with_open (turned b new r old) bs ss)) most)) (sym rest_is)
        ∙ ap (goes_on_with most (InQ q) (left - 1)) same

  -- A member was divided, its remainder is R, and r is put: the step goes on if there is room.
  module _ (left : ℕ) (r : List Packed) (R : Poly) (u : Sound p r) (e : terms r ≡ monic p R) (s : BranchSound p b) (most : ℕ)
      (bound : l.of_room ≡ at_most (most - 1)) (some : 1 ≤ most) (h : AllListed ss) (one : 1 ≤ left) where
    abbrev GoesOn : Dividends → ℕ → Type 0
    GoesOn d left = rest_of_step l p d left k f b bs ss ≡ goes_on_with most d (left - 1) (renewed d left r)

    follows : (d : Dividends) (left : ℕ) → remainder_by l p k f (terms (next_member d left b)) ≡ within R
        → after_division (remainder_by l p k f (terms (next_member d left b))) (onward d left) ≡ onward d left R
    follows d left rem = ap (λ (B : Bounded). after_division B (onward d left)) rem

    pub step_put : (d : Dividends) → HasMembers d left b → remainder_by l p k f (terms (next_member d left b)) ≡ within R → GoesOn d left
    step_put (InP place) has rem =
        let z : 1 ≡ left = omega (arith, one, has.0) in
        subst (GoesOn (InP place)) z (takes (InP place) 1 (omega arith) (has.1 one) ∙ follows (InP place) 1 rem ∙ puts_p place r R most bound some h s u e)
    step_put (InQ n) has rem =
        takes (InQ n) left one (one, has) ∙ follows (InQ n) left rem ∙ puts_q n left one has r R u e s most bound some h
