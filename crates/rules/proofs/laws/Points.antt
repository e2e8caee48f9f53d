-- The zero relation: at each step, a point solves one of the branches or one of the systems listed if and only if it did before.
use Rattle.std.specs.Prelude.{◌≡◌, ◌≢◌, ◌↔◌, ◌⊎◌, ◌||◌, ℕ, suc, T}
use Rattle.std.proofs.Common.{sym, ◌∙◌, ap, subst, inl, inr}
use Rattle.std.proofs.Math.Logic.{Lift}
use mathlib.Core.List.{List, [], ◌∷◌, ◌++◌}
use Rattle.residues.specs.Each.{Each}
use Rattle.residues.specs.Prime.{Prime}
use Rattle.residues.specs.Field.{Field, Contains, pow}
use Rattle.residues.specs.laws.Booleans.{or_cases}
use Rattle.residues.specs.laws.Residues.{one≤}
use Rattle.residues.specs.laws.Ring.{nil_add, mul_nil}
use Rattle.polynomials.specs.Poly.{Poly}
use Rattle.polynomials.specs.Canonical.{Canonical}
use Rattle.polynomials.specs.Division.{degree, coefficient, initial, rest, rounds, multiple, remainder}
use Rattle.polynomials.specs.Bounds.{within}
use Rattle.polynomials.specs.Value.{value}
use Rattle.polynomials.specs.laws.Canonical.{canonical_coefficient, canonical_without}
use Rattle.polynomials.specs.laws.Division.{division, reading_value, split_zero, remainder_zero}
use Rattle.tables.specs.Read.{System, Input}
use Rattle.rules.specs.Branch.{Branch, put_p, put_q, member, is_one, some_one, some_zero, Chosen, remove}
use Rattle.rules.specs.Room.{Limits, State}
use Rattle.rules.specs.Step.{split_open, split_aside, divided, remainder_by}
use Rattle.rules.specs.Run.{finished, first_branch, run_of, first_state}
use Rattle.rules.specs.Solutions.{Some, Zero, NonZero, SolvesInput, SolvesSystem, Proper}
use Rattle.rules.proofs.laws.Lists.{At, some_append, each_apart, each_remove_other}
use Rattle.rules.proofs.laws.Put.{each_of_member, one_is_nonzero, some_one_refutes, some_zero_refutes, put_p_zero, put_q_nonzero, put_all_p_zero, put_all_q_nonzero}
use Rattle.rules.proofs.laws.Taken.{Settled, after_close, Replaced, remainder_by_is, Taken, by_drop, by_list, by_split, by_divide, by_close}
use Rattle.rules.proofs.laws.Runs.{run_of_keeps}
use Rattle.rules.proofs.laws.Kept.{OfBranch, OfState, taken_keeps, first_keeps, canonical_by, canonical_closed}

module _ {ℓ} {K : Type ℓ} (F : Field K) (x : List K) where
  -- The point solves a branch.
  abbrev pub SolvesBranch : Branch → Type ℓ
  SolvesBranch b = Each (Zero F x) b.P × Each (NonZero F x) b.Q × Each (Zero F x) b.T

  -- It solves a branch of the state, or one of the systems listed.
  abbrev pub SolvesState : State → Type ℓ
  SolvesState s = Some SolvesBranch s.branches ⊎ Some (SolvesSystem F x) s.systems

  pub initial_nonzero : (k : ℕ) (f : Chosen) (b : Branch) → Settled k f b → Each (NonZero F x) b.Q → NonZero F x (initial k f.poly)
  initial_nonzero k f b y e =
      elim (or_cases (is_one (initial k f.poly)) (member (initial k f.poly) b.Q) y) [
        | inl o ↦ one_is_nonzero F x (initial k f.poly) o
        | inr m ↦ each_of_member (NonZero F x) (initial k f.poly) b.Q m e
      ]

  module _ (l : Limits) (p : ℕ) (prime : Prime p) (char : Contains F p) where
    open F.ring use {add as ◌⊕◌, mul as ◌⊗◌, nil as 𝟘}

    infixl 60 ◌⊕◌
    infixl 70 ◌⊗◌
    -- Where the divisor vanishes, the remainder vanishes with the dividend,
    remainder_of_zero : (k d : ℕ) (G : Poly) (n : ℕ) (R : Poly) → Zero F x G → Zero F x R → Zero F x (remainder p k d G n R)
    remainder_of_zero k d G n R zG zR =
        sym (nil_add F.ring (at (remainder p k d G n R)))
        ∙ ap (λ z. z ⊕ at (remainder p k d G n R)) (sym (mul_nil F.ring (at (multiple p k d G n R))) ∙ ap (λ z. at (multiple p k d G n R) ⊗ z) (sym zG))
        ∙ sym (division F.ring p at (reading_value F.ring p char (one≤ prime) x) k d G n R)
        ∙ ap (λ z. pow F.ring (at (coefficient k d G)) (rounds p k d G n R) ⊗ z) zR ∙ mul_nil F.ring _
      where
        at : Poly → K
        at f = value F.ring f x

    divides_zero : (k : ℕ) (f g r : Poly) → remainder_by l p k f g ≡ within r → Zero F x f → Zero F x g → Zero F x r
    divides_zero k f g r e zf zg = subst (Zero F x) (remainder_by_is l p k f g r e) (remainder_of_zero k (degree k f) f (suc (degree k g)) g zf zg)

    -- and where the divisor's initial does not vanish, the dividend with the remainder.
    divided_zero : (k : ℕ) (f g r : Poly) → remainder_by l p k f g ≡ within r → Zero F x f → NonZero F x (initial k f) → Zero F x r → Zero F x g
    unfolding initial
    divided_zero k f g r e zf n zr =
        (remainder_zero F p char (one≤ prime) x k (degree k f) f zf n (suc (degree k g)) g).0 (subst (Zero F x) (sym (remainder_by_is l p k f g r e)) zr)

    -- ── the rules, one by one ──
    drop_none : (b : Branch) → T (some_one b.P || some_zero b.Q) → SolvesBranch b → ⊥
    drop_none b t s =
        elim (or_cases (some_one b.P) (some_zero b.Q) t) [
          | inl o ↦ some_one_refutes F x b.P o s.0
          | inr o ↦ some_zero_refutes F x b.Q o s.1
        ]

    pub list_same : (b : Branch) → b.P ≡ [] → SolvesBranch b ↔ SolvesSystem F x (record { T = b.T; U = b.Q })
    list_same b q = ((λ s. (s.2, s.1)), (λ s. (subst (Each (Zero F x)) (sym q) tt, s.1, s.0)))

    pub split_both : (k : ℕ) (f : Chosen) (b : Branch) → OfBranch (Canonical p) b → At f.place f.poly b.P →
        SolvesBranch b ↔ (SolvesBranch (split_open l p k f b) ⊎ SolvesBranch (split_aside l p k f b))
    unfolding initial rest
    split_both k f b c a = (there, back)
      where
        G : Poly
        G = f.poly

        d : ℕ
        d = degree k G

        cG : Canonical p G
        cG = ((each_apart (Canonical p) f.place G b.P a).0 c.0).0

        apart : Each (Zero F x) b.P ↔ (Zero F x G × Each (Zero F x) (remove f.place b.P))
        apart = each_apart (Zero F x) f.place G b.P a

        put_initial : Each (Zero F x) (put_p p (initial k G) (remove f.place b.P)) ↔ (Zero F x (initial k G) × Each (Zero F x) (remove f.place b.P))
        put_initial = put_p_zero F x p prime char (initial k G) (remove f.place b.P) (canonical_coefficient p k d G cG)

        put_rest : Each (Zero F x) (put_p p (rest k G) (put_p p (initial k G) (remove f.place b.P)))
            ↔ (Zero F x (rest k G) × Each (Zero F x) (put_p p (initial k G) (remove f.place b.P)))
        put_rest = put_p_zero F x p prime char (rest k G) (put_p p (initial k G) (remove f.place b.P)) (canonical_without p k d G cG)

        put_apart : Each (NonZero F x) (put_q p (initial k G) b.Q) ↔ (NonZero F x (initial k G) × Each (NonZero F x) b.Q)
        put_apart = put_q_nonzero F x p prime char (initial k G) b.Q (canonical_coefficient p k d G cG)

        there : SolvesBranch b → SolvesBranch (split_open l p k f b) ⊎ SolvesBranch (split_aside l p k f b)
        there s = elim (F.zero_or_not (value F.ring (coefficient k d G) x)) [
          | inl z ↦ inr (put_rest.1 (sym (split_zero F p char (one≤ prime) x k d G z) ∙ (apart.0 s.0).0, put_initial.1 (z, (apart.0 s.0).1)), s.1, s.2)
          | inr n ↦ inl (s.0, put_apart.1 (n, s.1), s.2)
        ]

        back : SolvesBranch (split_open l p k f b) ⊎ SolvesBranch (split_aside l p k f b) → SolvesBranch b
        back (inl s) = (s.0, (put_apart.0 s.1).1, s.2)
        back (inr s) =
            let e = put_rest.0 s.0 in
            let i = put_initial.0 e.1 in
            (apart.1 (split_zero F p char (one≤ prime) x k d G i.0 ∙ e.0, i.1), s.1, s.2)

    pub divide_same : (k : ℕ) (f g : Chosen) (r : Poly) (b : Branch) → Canonical p r → At f.place f.poly b.P → Settled k f b →
        At g.place g.poly b.P → f.place ≢ g.place → remainder_by l p k f.poly g.poly ≡ within r →
        SolvesBranch b ↔ SolvesBranch (divided l p g r b)
    divide_same k f g r b c af y ag n e = (there, back)
      where
        apart : Each (Zero F x) b.P ↔ (Zero F x g.poly × Each (Zero F x) (remove g.place b.P))
        apart = each_apart (Zero F x) g.place g.poly b.P ag

        put : Each (Zero F x) (put_p p r (remove g.place b.P)) ↔ (Zero F x r × Each (Zero F x) (remove g.place b.P))
        put = put_p_zero F x p prime char r (remove g.place b.P) c

        there : SolvesBranch b → SolvesBranch (divided l p g r b)
        there s =
            let u = apart.0 s.0 in
            (put.1 (divides_zero k f.poly g.poly r e ((each_apart (Zero F x) f.place f.poly b.P af).0 s.0).0 u.0, u.1), s.1, s.2)

        back : SolvesBranch (divided l p g r b) → SolvesBranch b
        back s =
            let u = put.0 s.0 in
            let zf = each_remove_other (Zero F x) f.place g.place f.poly b.P af n u.1 in
            (apart.1 (divided_zero k f.poly g.poly r e zf (initial_nonzero k f b y s.1) u.0, u.1), s.1, s.2)

    -- The members gs of the old Q, and what is put of the new one already.
    replaced_there : (k : ℕ) (f : Poly) → Zero F x f → NonZero F x (initial k f) → (gs Q Q' : List Poly) → Each (Canonical p) gs → Replaced l p k f gs Q Q' →
        Each (NonZero F x) gs → Each (NonZero F x) Q → Each (NonZero F x) Q'
    replaced_there k f z n [] Q Q' c r e u = subst (Each (NonZero F x)) r u
    replaced_there k f z n (g ∷ gs) Q Q' c r e u =
        replaced_there k f z n gs (put_q p r.0 Q) Q' c.1 r.2 e.1
        ((put_q_nonzero F x p prime char r.0 Q (canonical_by l p (one≤ prime) k f g r.0 c.0 r.1)).1
        ((λ zr. e.0 (divided_zero k f g r.0 r.1 z n zr)), u))

    replaced_back : (k : ℕ) (f : Poly) → Zero F x f → (gs Q Q' : List Poly) → Each (Canonical p) gs → Replaced l p k f gs Q Q' →
        Each (NonZero F x) Q' → Each (NonZero F x) gs × Each (NonZero F x) Q
    replaced_back k f z [] Q Q' c r u = (tt, subst (Each (NonZero F x)) (sym r) u)
    replaced_back k f z (g ∷ gs) Q Q' c r u =
        let ih = replaced_back k f z gs (put_q p r.0 Q) Q' c.1 r.2 u in
        let put = (put_q_nonzero F x p prime char r.0 Q (canonical_by l p (one≤ prime) k f g r.0 c.0 r.1)).0 ih.1 in
        (((λ zg. put.0 (divides_zero k f g r.0 r.1 z zg)), ih.0), put.1)

    pub close_same : (k : ℕ) (f : Chosen) (Q : List Poly) (b : Branch) → Each (Canonical p) b.Q → At f.place f.poly b.P → Settled k f b →
        Replaced l p k f.poly b.Q [] Q →
        SolvesBranch b ↔ SolvesBranch (after_close f Q b)
    close_same k f Q b c a y r = (there, back)
      where
        apart : Each (Zero F x) b.P ↔ (Zero F x f.poly × Each (Zero F x) (remove f.place b.P))
        apart = each_apart (Zero F x) f.place f.poly b.P a

        there : SolvesBranch b → SolvesBranch (after_close f Q b)
        there s =
            let u = apart.0 s.0 in
            (u.1, replaced_there k f.poly u.0 (initial_nonzero k f b y s.1) b.Q [] Q c r s.1 tt, (u.0, s.2))

        back : SolvesBranch (after_close f Q b) → SolvesBranch b
        back s = (apart.1 (s.2.0, s.0), (replaced_back k f.poly s.2.0 b.Q [] Q c r s.1).0, s.2.1)

    -- ── a step ──
    abbrev Same : State → State → Type ℓ
    Same s s' = SolvesState s ↔ SolvesState s'

    one_same : (b b' : Branch) (waiting : List Branch) (listed : List System) → SolvesBranch b ↔ SolvesBranch b' →
        Same (record { branches = b ∷ waiting; systems = listed }) (record { branches = b' ∷ waiting; systems = listed })
    one_same b b' waiting listed e = (over e.0, over e.1)
      where
        over : {A B : Type ℓ} → (A → B) → (A ⊎ Some SolvesBranch waiting) ⊎ Some (SolvesSystem F x) listed → (B ⊎ Some SolvesBranch waiting) ⊎ Some (SolvesSystem F x) listed
        over h (inl (inl s)) = inl (inl (h s))
        over h (inl (inr s)) = inl (inr s)
        over h (inr s) = inr s

    step_same : (b : Branch) (waiting : List Branch) (listed : List System) (s : State) → Taken l p b waiting listed s → OfBranch (Canonical p) b →
        Same (record { branches = b ∷ waiting; systems = listed }) s
    step_same b waiting listed s (by_drop t) c = (there, back)
      where
        there : (SolvesBranch b ⊎ Some SolvesBranch waiting) ⊎ Some (SolvesSystem F x) listed → Some SolvesBranch waiting ⊎ Some (SolvesSystem F x) listed
        there (inl (inl u)) = absurd (drop_none b t u)
        there (inl (inr u)) = inl u
        there (inr u) = inr u

        back : Some SolvesBranch waiting ⊎ Some (SolvesSystem F x) listed → (SolvesBranch b ⊎ Some SolvesBranch waiting) ⊎ Some (SolvesSystem F x) listed
        back (inl u) = inl (inr u)
        back (inr u) = inr u
    step_same b waiting listed s (by_list q) c = (there, back)
      where
        new : System
        new = record { T = b.T; U = b.Q }

        there : (SolvesBranch b ⊎ Some SolvesBranch waiting) ⊎ Some (SolvesSystem F x) listed → Some SolvesBranch waiting ⊎ Some (SolvesSystem F x) (listed ++ (new ∷ []))
        there (inl (inl u)) = inr ((some_append (SolvesSystem F x) listed new).1 (inl ((list_same b q).0 u)))
        there (inl (inr u)) = inl u
        there (inr u) = inr ((some_append (SolvesSystem F x) listed new).1 (inr u))

        back : Some SolvesBranch waiting ⊎ Some (SolvesSystem F x) (listed ++ (new ∷ [])) → (SolvesBranch b ⊎ Some SolvesBranch waiting) ⊎ Some (SolvesSystem F x) listed
        back (inl u) = inl (inr u)
        back (inr u) = elim ((some_append (SolvesSystem F x) listed new).0 u) [ inl v ↦ inl (inl ((list_same b q).1 v)) | inr v ↦ inr v ]
    step_same b waiting listed s (by_split k f v) c = (there, back)
      where
        both : SolvesBranch b ↔ (SolvesBranch (split_open l p k f b) ⊎ SolvesBranch (split_aside l p k f b))
        both = split_both k f b c v.stands

        there : (SolvesBranch b ⊎ Some SolvesBranch waiting) ⊎ Some (SolvesSystem F x) listed →
            (SolvesBranch (split_open l p k f b) ⊎ (SolvesBranch (split_aside l p k f b) ⊎ Some SolvesBranch waiting)) ⊎ Some (SolvesSystem F x) listed
        there (inl (inl u)) = elim (both.0 u) [ inl o ↦ inl (inl o) | inr o ↦ inl (inr (inl o)) ]
        there (inl (inr u)) = inl (inr (inr u))
        there (inr u) = inr u

        back : (SolvesBranch (split_open l p k f b) ⊎ (SolvesBranch (split_aside l p k f b) ⊎ Some SolvesBranch waiting)) ⊎ Some (SolvesSystem F x) listed →
            (SolvesBranch b ⊎ Some SolvesBranch waiting) ⊎ Some (SolvesSystem F x) listed
        back (inl (inl u)) = inl (inl (both.1 (inl u)))
        back (inl (inr (inl u))) = inl (inl (both.1 (inr u)))
        back (inl (inr (inr u))) = inl (inr u)
        back (inr u) = inr u
    step_same b waiting listed s (by_divide k f g r v y a n o e) c =
        one_same b (divided l p g r b) waiting listed
        (divide_same k f g r b (canonical_by l p (one≤ prime) k f.poly g.poly r ((each_apart (Canonical p) g.place g.poly b.P a).0 c.0).0 e) v.stands y a n e)
    step_same b waiting listed s (by_close k f Q v y o e) c = one_same b (after_close f Q b) waiting listed (close_same k f Q b c.1 v.stands y e)

-- ── the whole run ──
module _ {ℓ} {K : Type ℓ} (F : Field K) (x : List K) (l : Limits) (t : Input) (proper : Proper t) (char : Contains F t.modulus) where
  first_same : SolvesState F x (first_state t) ↔ SolvesInput F x t
  unfolding first_branch
  first_same = (there, back)
    where
      puts_p : Each (Zero F x) (first_branch t).P ↔ (Each (Zero F x) t.P × Unit {ℓ})
      puts_p = put_all_p_zero F x t.modulus proper.prime char t.P [] proper.canonical_p

      puts_q : Each (NonZero F x) (first_branch t).Q ↔ (Each (NonZero F x) t.Q × Unit {ℓ})
      puts_q = put_all_q_nonzero F x t.modulus proper.prime char t.Q [] proper.canonical_q

      there : SolvesState F x (first_state t) → SolvesInput F x t
      there (inl (inl s)) = ((puts_p.0 s.0).0, (puts_q.0 s.1).0)
      there (inl (inr s)) = absurd s.lower
      there (inr s) = absurd s.lower

      back : SolvesInput F x t → SolvesState F x (first_state t)
      back s = inl (inl (puts_p.1 (s.0, tt), puts_q.1 (s.1, tt), tt))

  -- All polynomials of the state are canonical, and its points are those of the input.
  abbrev KeptPoints : State → Type ℓ
  KeptPoints s = Lift {0, ℓ} (OfState (Canonical t.modulus) s) × (SolvesState F x s ↔ SolvesInput F x t)

  keeps_points : (b : Branch) (waiting : List Branch) (listed : List System) (s : State) → Taken l t.modulus b waiting listed s →
      KeptPoints (record { branches = b ∷ waiting; systems = listed }) → KeptPoints s
  keeps_points b waiting listed s k h =
      let same = step_same F x l t.modulus proper.prime char b waiting listed s k h.0.lower.0.0 in (
        record { lower = taken_keeps l t.modulus (Canonical t.modulus) (canonical_closed l t.modulus (one≤ proper.prime)) b waiting listed s k h.0.lower },
        ((λ u. h.1.0 (same.1 u)), (λ u. same.0 (h.1.1 u))),
      )

  pub zero_relation : (limit n : ℕ) (ss : List System) → run_of l limit t ≡ finished n ss → SolvesInput F x t ↔ Some (SolvesSystem F x) ss
  zero_relation limit n ss e = (there, (λ s. last.1.0 (inr s)))
    where
      last : KeptPoints (record { branches = []; systems = ss })
      last = run_of_keeps l t KeptPoints keeps_points limit n ss e (
        record { lower = first_keeps l t (Canonical t.modulus) (canonical_closed l t.modulus (one≤ proper.prime)) proper.canonical_p proper.canonical_q },
        first_same,
      )

      there : SolvesInput F x t → Some (SolvesSystem F x) ss
      there s = elim (last.1.1 s) [ inl u ↦ absurd u.lower | inr u ↦ u ]
