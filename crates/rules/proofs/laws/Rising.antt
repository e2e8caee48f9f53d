-- The leading variables of each listed T rise: all of P is led by variables below the one that leads the first of T.
use Rattle.std.specs.Prelude.{◌≡◌, ◌≢◌, ◌⊎◌, Bool, true, false, ◌||◌, ℕ, zero, suc, ◌%◌, ◌≤◌, ◌<◌, T, eqb, get_or}
use Rattle.std.proofs.Common.{sym, ◌∙◌, ap, subst, inl, inr, mul_comm, arith, ext_get_or}
use mathlib.Core.List.{List, [], ◌∷◌}
use Prim.Native.Nat.{Ordering}
use Rattle.std.proofs.Math.Decide.{ℕ_discrete}
use Rattle.std.proofs.Math.Dec.{eqb_refl}
use Rattle.residues.specs.Each.{Each}
use Rattle.residues.specs.laws.Each.{each_append, each_map, each_both}
use Rattle.residues.specs.Prime.{Prime}
use Rattle.residues.specs.Residue.{inverse}
use Rattle.residues.specs.laws.Booleans.{and_T}
use Rattle.residues.specs.laws.Inverse.{inverse_ok}
use Rattle.residues.specs.laws.Residues.{one≤}
use Rattle.polynomials.specs.Poly.{Exponents, Poly, order, monic}
use Rattle.polynomials.specs.Canonical.{Canonical}
use Rattle.polynomials.specs.Division.{degree, leader, initial, rest}
use Rattle.polynomials.specs.Bounds.{within}
use Rattle.polynomials.specs.laws.Bounds.{or_false_both}
use Rattle.polynomials.specs.laws.Order.{order_refl}
use Rattle.polynomials.specs.laws.Merge.{scaled, monic_scaled}
use Rattle.polynomials.specs.laws.Free.{Free, free_monic, free_remainder}
use Rattle.polynomials.specs.laws.Places.{Places, places_monic, places_initial, places_rest, places_remainder}
use Rattle.polynomials.specs.laws.Parts.{above_leader, leader_at_most, leader_places, free_initial, free_rest}
use Rattle.tables.specs.Read.{System, Input}
use Rattle.rules.specs.Branch.{Branch, put_p, is_zero, is_one, all_zeros, some_one, some_zero, highest_leader, Chosen, remove}
use Rattle.rules.specs.Room.{Limits, State}
use Rattle.rules.specs.Step.{remainder_by}
use Rattle.rules.specs.Run.{finished, first_branch, run_of}
use Rattle.tables.specs.Admissible.{Rising}
use Rattle.rules.specs.Solutions.{Proper}
use Rattle.rules.proofs.laws.Lists.{At, each_apart}
use Rattle.rules.proofs.laws.Pivot.{leaders_at_most}
use Rattle.rules.proofs.laws.Put.{put_p_keeps, put_all_keeps}
use Rattle.rules.proofs.laws.Taken.{Pivot, remainder_by_is, Taken, by_drop, by_list, by_split, by_divide, by_close}
use Rattle.rules.proofs.laws.Runs.{run_of_keeps}
use Rattle.rules.proofs.laws.Kept.{Closed, OfBranch, OfState, taken_keeps, first_keeps, canonical_closed}

-- ── leaders of results ──
leader_monic : (p : ℕ) (f : Poly) → leader (monic p f) ≤ leader f
leader_monic p f = leader_at_most (monic p f) (leader f) (λ j l. free_monic j p f (above_leader f j l))

leader_of_initial : (k : ℕ) (f : Poly) → leader (initial k f) ≤ leader f
leader_of_initial k f = leader_at_most (initial k f) (leader f) (λ j l. free_initial j k f (above_leader f j l))

leader_of_rest : (k : ℕ) (f : Poly) → leader (rest k f) ≤ leader f
leader_of_rest k f = leader_at_most (rest k f) (leader f) (λ j l. free_rest j k f (above_leader f j l))

leader_of_remainder : (l : Limits) (p k : ℕ) (f g r : Poly) → leader f ≤ suc k → leader g ≤ suc k → remainder_by l p k f g ≡ within r → leader r ≤ suc k
leader_of_remainder l p k f g r hf hg e =
    leader_at_most r (suc k)
    (λ j h. subst (Free j) (remainder_by_is l p k f g r e)
    (free_remainder j p k (degree k f) f (above j h) (above_leader f j (omega arith)) (suc (degree k g)) g (above_leader g j (omega arith))))
  where
    above : (j : ℕ) → suc k ≤ j → j ≢ k
    above j h q = omega arith

-- ── eight places in every term ──
pub places_closed : (l : Limits) (p : ℕ) → Closed l p (Places 8)
places_closed l p = record {
  of_monic = places_monic 8 p;
  of_initial = places_initial 8;
  of_rest = places_rest 8;
  of_remainder = λ k f g r q uf ug e. subst (Places 8) (remainder_by_is l p k f g r e)
      (places_remainder 8 p k (degree k f) f (omega (arith, leader_places 8 f uf)) uf (suc (degree k g)) g ug);
}

-- ── a monic constant is 1 ──
-- The first coefficient is 1.
abbrev pub NonzeroMonic : Poly → Type 0
NonzeroMonic [] = ⊥
NonzeroMonic (t ∷ f) = t.coef ≡ 1

monic_is_monic : (p : ℕ) (f : Poly) → Prime p → Canonical p f → T (is_zero (monic p f)) ⊎ NonzeroMonic (monic p f)
unfolding monic is_zero scaled
monic_is_monic p [] prime c = inl tt
monic_is_monic p (t ∷ f) prime c =
    inr (subst NonzeroMonic (sym (monic_scaled p t f prime c)) (ap (λ (z : ℕ). z % p) (mul_comm (inverse p t.coef) t.coef) ∙ inverse_ok p t.coef prime c.0 c.1))

all_zeros_of : (e : Exponents) → ((j : ℕ) → get_or e j 0 ≡ 0) → T (all_zeros e)
unfolding all_zeros
all_zeros_of [] h = tt
all_zeros_of (n ∷ e) h = and_T (eqb n 0) (all_zeros e) (subst (λ (m : ℕ). T (eqb m 0)) (sym (h 0)) (eqb_refl 0)) (all_zeros_of e (λ j. h (suc j)))

-- Without a leading variable there is one term.
pub constant_is_one : (p n : ℕ) (f : Poly) → Canonical p f → Places n f → NonzeroMonic f → leader f ≡ 0 → T (is_one f)
unfolding is_one
constant_is_one p n [] c u m h = m
constant_is_one p n (t ∷ []) c u m h =
    and_T (eqb t.coef 1) (all_zeros t.exps) (subst (λ (a : ℕ). T (eqb a 1)) (sym m) (eqb_refl 1)) (all_zeros_of t.exps (λ j. (above_leader (t ∷ []) j (omega arith)).0))
constant_is_one p n (t ∷ (v ∷ f)) c u m h = absurd (clash c.2.0)
  where
    free : (j : ℕ) → Free j (t ∷ (v ∷ f))
    free j = above_leader (t ∷ (v ∷ f)) j (omega arith)

    same : v.exps ≡ t.exps
    same = ext_get_or 0 v.exps t.exps (u.1.0 ∙ sym u.0) (λ i l. (free i).1.0 ∙ sym (free i).0)

    clash : order v.exps t.exps ≡ Ordering.lt → ⊥
    clash q =
        let e : order v.exps t.exps ≡ Ordering.eq = subst (λ a. order v.exps a ≡ Ordering.eq) same (order_refl v.exps) in
        let z : ◌≡◌ {A = ℕ} 0 1 = cc in omega arith

some_one_at : (i : ℕ) (f : Poly) (fs : List Poly) → At i f fs → T (is_one f) → T (some_one fs)
unfolding some_one
some_one_at i f [] a o = a
some_one_at zero f (g ∷ fs) a o = go (is_one g) (subst (λ h. T (is_one h)) a o)
  where
    go : (b : Bool) → T b → T (b || some_one fs)
    go true t = tt
    go false t = absurd t
some_one_at (suc i) f (g ∷ fs) a o = go (is_one g) (some_one_at i f fs a o)
  where
    go : (b : Bool) → T (some_one fs) → T (b || some_one fs)
    go true t = tt
    go false t = t

-- ── the invariant ──
-- f is led by a variable below that of the first of T.
abbrev pub BelowFirst : List Poly → Poly → Type 0
BelowFirst [] f = Unit {0}
BelowFirst (g ∷ gs) f = leader f < leader g

below_less : (T : List Poly) (f g : Poly) → leader g ≤ leader f → BelowFirst T f → BelowFirst T g
below_less [] f g h b = tt
below_less (e ∷ T) f g h b = omega arith

rising_from : (T : List Poly) (f : Poly) → Rising 0 T → BelowFirst T f → Rising (leader f) T
rising_from [] f r b = tt
rising_from (g ∷ gs) f r b = (b, r.1)

abbrev pub Rises : Branch → Type 0
Rises b = Rising 0 b.T × Each (λ f. NonzeroMonic f × BelowFirst b.T f) b.P

-- Canonical, with eight places in each term.
abbrev pub Sound : ℕ → Poly → Type 0
Sound p f = Canonical p f × Places 8 f

module _ (l : Limits) (p : ℕ) (prime : Prime p) where
  sound_closed : Closed l p (Sound p)
  sound_closed =
      let c = canonical_closed l p (one≤ prime) in
      let d = places_closed l p in
      record {
        of_monic = λ f u. (c.of_monic f u.0, d.of_monic f u.1);
        of_initial = λ k f u. (c.of_initial k f u.0, d.of_initial k f u.1);
        of_rest = λ k f u. (c.of_rest k f u.0, d.of_rest k f u.1);
        of_remainder = λ k f g r q u v e. (c.of_remainder k f g r q u.0 v.0 e, d.of_remainder k f g r q u.1 v.1 e);
      }

  -- What is put into P is led by no higher variable.
  put_p_below : (T : List Poly) (f : Poly) (fs : List Poly) → Canonical p f → BelowFirst T f → Each (λ f. NonzeroMonic f × BelowFirst T f) fs →
      Each (λ f. NonzeroMonic f × BelowFirst T f) (put_p p f fs)
  put_p_below T f fs c b e =
      put_p_keeps (λ f. NonzeroMonic f × BelowFirst T f) p f fs
      (elim (monic_is_monic p f prime c) [ inl z ↦ inl z | inr m ↦ inr (m, below_less T f (monic p f) (leader_monic p f) b) ]) e

  -- The pivot has a leading variable, since a monic constant would have dropped the branch.
  pivot_leader : (k : ℕ) (f : Chosen) (b : Branch) → Pivot k f b → Sound p f.poly → NonzeroMonic f.poly → leader f.poly ≡ suc k
  pivot_leader k f b v s m = elim (ℕ_discrete (leader f.poly) 0) [
    | yes e ↦ absurd (dropped e)
    | no n ↦ omega (arith, v.leads, v.highest)
  ]
    where
      dropped : leader f.poly ≡ 0 → ⊥
      dropped e =
          subst T (or_false_both (some_one b.P) (some_zero b.Q) v.not_dropped).0
          (some_one_at f.place f.poly b.P v.stands (constant_is_one p 8 f.poly s.0 s.1 m e))

  step_rises : (b : Branch) (waiting : List Branch) (listed : List System) (s : State) → Taken l p b waiting listed s → OfBranch (Sound p) b →
      Rises b → Each Rises waiting → Each (λ s. Rising 0 s.T) listed → Each Rises s.branches × Each (λ s. Rising 0 s.T) s.systems
  step_rises b waiting listed s (by_drop _) c h w u = (w, u)
  step_rises b waiting listed s (by_list q) c h w u = (w, (each_append (λ s. Rising 0 s.T) listed _).1 (u, (h.0, tt)))
  step_rises b waiting listed s (by_split k f v) c h w u =
      let r = (each_apart (λ f. NonzeroMonic f × BelowFirst b.T f) f.place f.poly b.P v.stands).0 h.1 in
      let sound = ((each_apart (Sound p) f.place f.poly b.P v.stands).0 c.0).0 in
      let of_initial = sound_closed.of_initial k f.poly sound in
      let of_rest = sound_closed.of_rest k f.poly sound in
      let with_initial = put_p_below b.T (initial k f.poly) (remove f.place b.P) of_initial.0
      (below_less b.T f.poly (initial k f.poly) (leader_of_initial k f.poly) r.0.1) r.1 in
      ((h, ((h.0, put_p_below b.T (rest k f.poly) _ of_rest.0 (below_less b.T f.poly (rest k f.poly) (leader_of_rest k f.poly) r.0.1) with_initial), w)), u)
  step_rises b waiting listed s (by_divide k f g r v y a n o e) c h w u =
      let rf = (each_apart (λ f. NonzeroMonic f × BelowFirst b.T f) f.place f.poly b.P v.stands).0 h.1 in
      let rg = (each_apart (λ f. NonzeroMonic f × BelowFirst b.T f) g.place g.poly b.P a).0 h.1 in
      let sf = ((each_apart (Sound p) f.place f.poly b.P v.stands).0 c.0).0 in
      let sg = ((each_apart (Sound p) g.place g.poly b.P a).0 c.0).0 in
      let led : leader f.poly ≡ suc k = pivot_leader k f b v sf rf.0.0 in
      let low : leader r ≤ suc k = leader_of_remainder l p k f.poly g.poly r (omega arith) (omega arith) e in
      let canonical_r = (canonical_closed l p (one≤ prime)).of_remainder k f.poly g.poly r (omega arith) sf.0 sg.0 e in
      (((h.0, put_p_below b.T r (remove g.place b.P) canonical_r (below_less b.T g.poly r (omega arith) rg.0.1) rg.1), w), u)
  step_rises b waiting listed s (by_close k f Q v y o e) c h w u = (((rises, each_map _ _ lower (remove f.place b.P) all_known), w), u)
    where
      r : (NonzeroMonic f.poly × BelowFirst b.T f.poly) × Each (λ f. NonzeroMonic f × BelowFirst b.T f) (remove f.place b.P)
      r = (each_apart (λ f. NonzeroMonic f × BelowFirst b.T f) f.place f.poly b.P v.stands).0 h.1

      led : leader f.poly ≡ suc k
      led = pivot_leader k f b v ((each_apart (Sound p) f.place f.poly b.P v.stands).0 c.0).0 r.0.0

      rises : Rising 0 (f.poly ∷ b.T)
      rises = (omega (arith, led), rising_from b.T f.poly h.0 r.0.1)

      -- Those left in P: led by no variable above v(k+1), and not by v(k+1).
      at_most : Each (λ g. leader g ≤ highest_leader b.P) (remove f.place b.P)
      at_most = ((each_apart (λ g. leader g ≤ highest_leader b.P) f.place f.poly b.P v.stands).0 (leaders_at_most b.P)).1

      all_known : Each (λ g. (NonzeroMonic g × BelowFirst b.T g) × ((leader g ≢ suc k) × (leader g ≤ highest_leader b.P))) (remove f.place b.P)
      all_known = each_both _ _ (remove f.place b.P) r.1 (each_both _ _ (remove f.place b.P) o at_most)

      lower : (g : Poly) → (NonzeroMonic g × BelowFirst b.T g) × ((leader g ≢ suc k) × (leader g ≤ highest_leader b.P)) → NonzeroMonic g × (leader g < leader f.poly)
      lower g q = let n : leader g ≢ suc k = q.1.0 in (q.0.0, omega (arith, led, q.1.1, v.leads))

module _ (l : Limits) (t : Input) (proper : Proper t) (P : Each (Places 8) t.P) (Q : Each (Places 8) t.Q) where
  abbrev p : ℕ
  p = t.modulus

  abbrev KeptRising : State → Type 0
  KeptRising s = OfState (Sound p) s × Each Rises s.branches × Each (λ s. Rising 0 s.T) s.systems

  keeps_rising : (b : Branch) (waiting : List Branch) (listed : List System) (s : State) → Taken l p b waiting listed s →
      KeptRising (record { branches = b ∷ waiting; systems = listed }) → KeptRising s
  keeps_rising b waiting listed s k h =
      let stepped = step_rises l p proper.prime b waiting listed s k h.0.0.0 h.1.0 h.1.1 h.2 in
      (taken_keeps l p (Sound p) (sound_closed l p proper.prime) b waiting listed s k h.0, stepped.0, stepped.1)

  first_rises : Rises (first_branch t)
  unfolding first_branch
  first_rises = (tt, put_all_keeps (λ f. NonzeroMonic f × BelowFirst [] f) (Canonical p) (put_p p) (λ f fs c e. put_p_below l p proper.prime [] f fs c tt e) t.P [] proper.canonical_p tt)

  pub rising : (limit n : ℕ) (ss : List System) → run_of l limit t ≡ finished n ss → Each (λ s. Rising 0 s.T) ss
  rising limit n ss e =
      (run_of_keeps l t KeptRising keeps_rising limit n ss e (
        first_keeps l t (Sound p) (sound_closed l p proper.prime) (each_both _ _ t.P proper.canonical_p P) (each_both _ _ t.Q proper.canonical_q Q),
        (first_rises, tt),
        tt,
      )).2
