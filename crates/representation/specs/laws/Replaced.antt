-- Rule 5 replaces the members of Q one after the other: the work area keeps the new members before the old ones, which are live.
use Rattle.std.specs.Prelude.{◌≡◌, refl, List, [], ◌∷◌, ◌++◌, map, reverse, ℕ, ◌+◌, length, get_or}
use Rattle.std.proofs.Common.{sym, ◌∙◌}
use Rattle.std.proofs.Math.Path.{ap}
use native.Mathlib.Omega.{arith}
use Rattle.polynomials.specs.Poly.{Poly, monic}
use Rattle.polynomials.specs.Packed.{terms}
use Rattle.rules.specs.Branch as rules
use Rattle.rules.specs.Room.{Limits, polynomials_size, branch_size, branches_size, live}
use Rattle.rules.specs.Rule.{close}
use Rattle.rules.specs.Step as step
use Rattle.rules.specs.Step.{with_q, state, replace, apply}
use Rattle.branches.specs.Words.{put_q, put_q_before, remove}
use Rattle.branches.specs.laws.Words.{put_q_before_in_parts}
use Rattle.branches.specs.Area.{Stored, size, with_open, put_into_q, without_q, closed}
use Rattle.representation.specs.Represent.{AllListed, branch_of, system_of, chosen, with_new, Sound, AllSound}
use Rattle.representation.specs.laws.Lists.{map_remove, map_put_q, map_put_q_before}
use Rattle.representation.specs.laws.Sizes.{size_live}
use Rattle.polynomials.specs.declared.Term.{Term as Packed}

remove_at : (new : List (List Packed)) (g : List Packed) (old : List (List Packed)) → remove (length new) (new ++ (g ∷ old)) ≡ new ++ old
unfolding remove
remove_at [] g old = refl
remove_at (f ∷ new) g old = ap (λ fs. f ∷ fs) (remove_at new g old)

pub polynomials_size_append : (fs gs : List Poly) → polynomials_size (fs ++ gs) ≡ polynomials_size fs + polynomials_size gs
unfolding polynomials_size
polynomials_size_append [] gs = omega arith
polynomials_size_append (f ∷ fs) gs = omega (arith, polynomials_size_append fs gs)

-- Before the first turn there are no new members.
with_new_closed : (l : Limits) (p : ℕ) (b : Stored) (i : ℕ) → with_new (closed i b) [] ≡ step.closed l p (chosen b i) (branch_of b)
with_new_closed l p b i = λ t. record { P = map_remove i b.P t; Q = []; T = terms (get_or b.P i []) ∷ map terms b.T }

pub apply_close : (l : Limits) (p : ℕ) (b : Stored) (bs ss : List Stored) (k i : ℕ) →
    apply l p (map branch_of bs) (reverse (map system_of ss)) (close k (chosen b i)) (branch_of b)
    ≡ replace l p (map branch_of bs) (reverse (map system_of ss)) k (chosen b i).poly (map terms (closed i b).Q) (with_new (closed i b) [])
unfolding apply
apply_close l p b bs ss k i =
    ap (replace l p (map branch_of bs) (reverse (map system_of ss)) k (chosen b i).poly (map terms b.Q)) (sym (with_new_closed l p b i))

-- g, behind the new members and before the old ones, is replaced by r.
abbrev pub turned : Stored → List (List Packed) → List Packed → List (List Packed) → Stored
turned b new r old = put_into_q (length old) r (without_q (length new) b)

module _ (l : Limits) (p : ℕ) (b : Stored) (bs ss : List Stored) (new : List (List Packed)) (g : List Packed) (old : List (List Packed)) (parts : b.Q ≡ new ++ (g ∷ old)) where
  pub turned_q : (r : List Packed) → (turned b new r old).Q ≡ put_q r new ++ old
  turned_q r =
      ap (put_q_before (length old) r) (ap (remove (length new)) parts ∙ remove_at new g old) ∙ put_q_before_in_parts (length old) r new old refl

  module _ (r : List Packed) (R : Poly) (sound_r : Sound p r) (of_r : terms r ≡ monic p R) (sound : AllSound p new) where
    pub with_new_turned : with_new b (put_q r new) ≡ with_q l p R (with_new b new)
    with_new_turned = λ t. record { P = map terms b.P; Q = map_put_q p r R sound_r of_r new sound t; T = map terms b.T }

    map_turned_q : map terms (turned b new r old).Q ≡ rules.put_q p R (map terms new) ++ map terms old
    map_turned_q =
        ap (λ fs. map terms (put_q_before (length old) r fs)) (ap (remove (length new)) parts ∙ remove_at new g old)
        ∙ map_put_q_before p r R sound_r of_r (length old) new old refl sound

    -- The count that the rules test, and the control record.
    pub turned_size : AllListed ss → size (with_open (turned b new r old) bs ss)
        ≡ 1 + (polynomials_size (map terms old) + live (state l p (map branch_of bs) (reverse (map system_of ss)) (with_q l p R (with_new b new))))
    unfolding live branches_size branch_size
    turned_size h =
        omega (
          arith,
          size_live (with_open (turned b new r old) bs ss) h,
          ap polynomials_size map_turned_q,
          polynomials_size_append (rules.put_q p R (map terms new)) (map terms old),
        )
