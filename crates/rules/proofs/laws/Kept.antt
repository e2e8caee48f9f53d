-- A property of polynomials that monic, initial, rest and remainder keep holds of every polynomial of a run that starts with it.
use Rattle.std.specs.Prelude.{◌≡◌, ℕ, suc, ◌-◌, ◌≤◌}
use Rattle.std.proofs.Common.{◌∙◌, ap, subst, inr}
use mathlib.Core.List.{List, [], ◌∷◌}
use Rattle.residues.specs.Each.{Each}
use Rattle.residues.specs.laws.Each.{each_append}
use Rattle.polynomials.specs.Poly.{Poly, monic}
use Rattle.polynomials.specs.Canonical.{Canonical}
use Rattle.polynomials.specs.Division.{degree, leader, initial, rest}
use Rattle.polynomials.specs.Bounds.{within}
use Rattle.polynomials.specs.laws.Canonical.{canonical_monic, canonical_coefficient, canonical_without}
use Rattle.polynomials.specs.laws.PolynomialRing.{canonical_remainder}
use Rattle.tables.specs.Read.{System, Input}
use Rattle.rules.specs.Branch.{Branch, put_p, put_q, Chosen}
use Rattle.rules.specs.Room.{Limits, State}
use Rattle.rules.specs.Step.{remainder_by}
use Rattle.rules.specs.Run.{finished, first_branch, run_of, first_state}
use Rattle.rules.proofs.laws.Lists.{each_apart}
use Rattle.rules.proofs.laws.Put.{put_p_keeps, put_q_keeps, put_all_keeps}
use Rattle.rules.proofs.laws.Taken.{Pivot, Replaced, remainder_by_is, Taken, by_drop, by_list, by_split, by_divide, by_close}
use Rattle.rules.proofs.laws.Runs.{run_of_keeps}

-- G is kept by the operations of the rules, the divisor being led by v(k+1).
pub record Closed (l : Limits) (p : ℕ) (G : Poly → Type 0) : Type 0 where
  pub of_monic : (f : Poly) → G f → G (monic p f)
  pub of_initial : (k : ℕ) (f : Poly) → G f → G (initial k f)
  pub of_rest : (k : ℕ) (f : Poly) → G f → G (rest k f)
  pub of_remainder : (k : ℕ) (f g r : Poly) → leader f - 1 ≡ k → G f → G g → remainder_by l p k f g ≡ within r → G r

module _ (G : Poly → Type 0) where
  abbrev pub OfBranch : Branch → Type 0
  OfBranch b = Each G b.P × Each G b.Q × Each G b.T

  abbrev pub OfSystem : System → Type 0
  OfSystem s = Each G s.T × Each G s.U

  -- G holds of every polynomial of the state.
  abbrev pub OfState : State → Type 0
  OfState s = Each OfBranch s.branches × Each OfSystem s.systems

pub pivot_variable : (k : ℕ) (f : Chosen) (b : Branch) → Pivot k f b → leader f.poly - 1 ≡ k
pivot_variable k f b v = ap (λ (n : ℕ). n - 1) v.leads ∙ v.highest

module _ (l : Limits) (p : ℕ) (G : Poly → Type 0) (C : Closed l p G) where
  replaced_keeps : (k : ℕ) (f : Poly) → leader f - 1 ≡ k → G f → (gs Q Q' : List Poly) → Replaced l p k f gs Q Q' → Each G gs → Each G Q → Each G Q'
  replaced_keeps k f h g [] Q Q' r e u = subst (Each G) r u
  replaced_keeps k f h g (q ∷ gs) Q Q' r e u =
      replaced_keeps k f h g gs (put_q p r.0 Q) Q' r.2 e.1 (put_q_keeps G p r.0 Q (C.of_monic r.0 (C.of_remainder k f q r.0 h g e.0 r.1)) u)

  put_p_closed : (f : Poly) (fs : List Poly) → G f → Each G fs → Each G (put_p p f fs)
  put_p_closed f fs g e = put_p_keeps G p f fs (inr (C.of_monic f g)) e

  put_q_closed : (f : Poly) (fs : List Poly) → G f → Each G fs → Each G (put_q p f fs)
  put_q_closed f fs g e = put_q_keeps G p f fs (C.of_monic f g) e

  pub taken_keeps : (b : Branch) (waiting : List Branch) (listed : List System) (s : State) → Taken l p b waiting listed s →
      OfState G (record { branches = b ∷ waiting; systems = listed }) → OfState G s
  taken_keeps b waiting listed s (by_drop t) h = (h.0.1, h.1)
  taken_keeps b waiting listed s (by_list q) h = (h.0.1, (each_append (OfSystem G) listed _).1 (h.1, ((h.0.0.2, h.0.0.1), tt)))
  taken_keeps b waiting listed s (by_split k f v) h =
      let here = h.0.0 in
      let r = (each_apart G f.place f.poly b.P v.stands).0 here.0 in
      let i = C.of_initial k f.poly r.0 in
      (((here.0, put_q_closed _ b.Q i here.1, here.2), ((put_p_closed _ _ (C.of_rest k f.poly r.0) (put_p_closed _ _ i r.1), here.1, here.2), h.0.1)), h.1)
  taken_keeps b waiting listed s (by_divide k f g r v y a n o e) h =
      let here = h.0.0 in
      let rf = (each_apart G f.place f.poly b.P v.stands).0 here.0 in
      let rg = (each_apart G g.place g.poly b.P a).0 here.0 in
      (((put_p_closed r _ (C.of_remainder k f.poly g.poly r (pivot_variable k f b v) rf.0 rg.0 e) rg.1, here.1, here.2), h.0.1), h.1)
  taken_keeps b waiting listed s (by_close k f Q v y o e) h =
      let here = h.0.0 in
      let r = (each_apart G f.place f.poly b.P v.stands).0 here.0 in
      (((r.1, replaced_keeps k f.poly (pivot_variable k f b v) r.0 b.Q [] Q e here.1 tt, (r.0, here.2)), h.0.1), h.1)

module _ (l : Limits) (t : Input) (G : Poly → Type 0) (C : Closed l t.modulus G) (P : Each G t.P) (Q : Each G t.Q) where
  pub first_keeps : OfState G (first_state t)
  unfolding first_branch
  first_keeps = (
    (
      (
        put_all_keeps G G (put_p t.modulus) (put_p_closed l t.modulus G C) t.P [] P tt,
        put_all_keeps G G (put_q t.modulus) (put_q_closed l t.modulus G C) t.Q [] Q tt,
        tt,
      ),
      tt,
    ),
    tt,
  )

  pub listed_keep : (limit n : ℕ) (ss : List System) → run_of l limit t ≡ finished n ss → Each (OfSystem G) ss
  listed_keep limit n ss e = (run_of_keeps l t (OfState G) (taken_keeps l t.modulus G C) limit n ss e first_keeps).1

-- Being canonical is kept.
pub canonical_by : (l : Limits) (p : ℕ) → 1 ≤ p → (k : ℕ) (f g r : Poly) → Canonical p g → remainder_by l p k f g ≡ within r → Canonical p r
canonical_by l p h k f g r c e = subst (Canonical p) (remainder_by_is l p k f g r e) (canonical_remainder p h k (degree k f) f (suc (degree k g)) g c)

pub canonical_closed : (l : Limits) (p : ℕ) → 1 ≤ p → Closed l p (Canonical p)
unfolding initial rest
canonical_closed l p h = record {
  of_monic = λ f c. canonical_monic p f h;
  of_initial = λ k f c. canonical_coefficient p k (degree k f) f c;
  of_rest = λ k f c. canonical_without p k (degree k f) f c;
  of_remainder = λ k f g r q cf cg e. canonical_by l p h k f g r cg e;
}
