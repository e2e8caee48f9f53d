-- What the two point tests answer: whether the point solves the input, and the place of the first system that it solves.
use Rattle.std.specs.Prelude.{◌≡◌, ◌≢◌, ◌⊎◌, ◌↔◌, Bool, ℕ, zero, suc, ◌+◌, ◌≤◌, eqb, ltb, length}
use Rattle.std.proofs.Math.Path.{refl, ap}
use Rattle.std.proofs.Common.{sym, ◌∙◌, subst, arith, ltb-true, lt-ltb, eqb-true, eq-eqb, ne_eqb}
use Rattle.std.proofs.Math.Logic.{inl, inr}
use Rattle.std.proofs.Math.Bool.{true, false, not, and-eq-true_iff}
use Rattle.std.proofs.lemmas.Bool.{false≢true, eqb-false, not-true}
use mathlib.Core.List.{List, [], ◌∷◌, ◌++◌}
use Rattle.residues.specs.Each.{Each}
use Rattle.residues.specs.laws.Each.{each_append}
use Rattle.polynomials.specs.Poly.{Poly}
use Rattle.polynomials.specs.Value.{value_modulo, Point}
use Rattle.tables.specs.Read.{good, Input, System, Listing, read_table, read_list}
use Rattle.tables.specs.Solve.{all_below, is_point, is_root, all_zero, none_zero, solves, first_solved, try_input, try_systems}
use Rattle.tables.specs.Solved.{PointOf, Solves, Solved, First}

-- ── points ──
all_below_point : (p : ℕ) (x : List ℕ) → all_below p x ≡ true → Point p x
unfolding all_below
all_below_point p [] e i h = absurd (omega arith)
all_below_point p (a ∷ x) e zero h = ltb-true a p ((and-eq-true_iff (ltb a p) (all_below p x)).0 e).0
all_below_point p (a ∷ x) e (suc i) h = all_below_point p x ((and-eq-true_iff (ltb a p) (all_below p x)).0 e).1 i (omega arith)

point_all_below : (p : ℕ) (x : List ℕ) → Point p x → all_below p x ≡ true
unfolding all_below
point_all_below p [] h = refl
point_all_below p (a ∷ x) h =
    (and-eq-true_iff (ltb a p) (all_below p x)).1 (lt-ltb a p (h 0 (omega arith)), point_all_below p x (λ i l. h (suc i) (omega arith)))

pub point_is : (p n : ℕ) (x : List ℕ) → is_point p n x ≡ true ↔ PointOf p n x
unfolding is_point
point_is p n x = (
  λ e. let k = (and-eq-true_iff (eqb (length x) n) (all_below p x)).0 e in (eqb-true (length x) n k.0, all_below_point p x k.1),
  λ h. (and-eq-true_iff (eqb (length x) n) (all_below p x)).1 (eq-eqb (length x) n h.0, point_all_below p x h.1),
)

module _ (p : ℕ) (x : List ℕ) where
  -- ── solutions ──
  zeros_are : (fs : List Poly) → all_zero p x fs ≡ true ↔ Each (λ f. value_modulo p f x ≡ 0) fs
  unfolding all_zero is_root
  zeros_are [] = (λ e. tt, λ h. refl)
  zeros_are (f ∷ fs) = (
    λ e. let k = (and-eq-true_iff (is_root p x f) (all_zero p x fs)).0 e in (eqb-true (value_modulo p f x) 0 k.0, (zeros_are fs).0 k.1),
    λ h. (and-eq-true_iff (is_root p x f) (all_zero p x fs)).1 (eq-eqb (value_modulo p f x) 0 h.0, (zeros_are fs).1 h.1),
  )

  nonzeros_are : (fs : List Poly) → none_zero p x fs ≡ true ↔ Each (λ f. value_modulo p f x ≢ 0) fs
  unfolding none_zero is_root
  nonzeros_are [] = (λ e. tt, λ h. refl)
  nonzeros_are (f ∷ fs) = (
    λ e. let k = (and-eq-true_iff (not (is_root p x f)) (none_zero p x fs)).0 e in
        (eqb-false (value_modulo p f x) 0 (not-true (is_root p x f) k.0), (nonzeros_are fs).0 k.1),
    λ h. (and-eq-true_iff (not (is_root p x f)) (none_zero p x fs)).1 (ap not (ne_eqb (value_modulo p f x) 0 h.0), (nonzeros_are fs).1 h.1),
  )

  pub solves_is : (zeros nonzeros : List Poly) → solves p x zeros nonzeros ≡ true ↔ Solves p x zeros nonzeros
  unfolding solves
  solves_is zeros nonzeros = (
    λ e. let k = (and-eq-true_iff (all_zero p x zeros) (none_zero p x nonzeros)).0 e in ((zeros_are zeros).0 k.0, (nonzeros_are nonzeros).0 k.1),
    λ h. (and-eq-true_iff (all_zero p x zeros) (none_zero p x nonzeros)).1 ((zeros_are zeros).1 h.0, (nonzeros_are nonzeros).1 h.1),
  )

  -- ── the first system solved ──
  solves_not : (s : System) → solves p x s.T s.U ≡ false → ¬ Solved p x s
  solves_not s e h = false≢true (sym e ∙ (solves_is s.T s.U).1 h)

  not_solves : (s : System) → ¬ Solved p x s → solves p x s.T s.U ≡ false
  not_solves s h = go (solves p x s.T s.U) (solves_is s.T s.U).0
    where
      go : (b : Bool) → (b ≡ true → Solved p x s) → b ≡ false
      go true f = absurd (h (f refl))
      go false f = refl

  first_or_none : (k : ℕ) (ss : List System) → First p x k (first_solved p x k ss) ss ⊎ ((first_solved p x k ss ≡ 0) × Each (λ s. ¬ Solved p x s) ss)
  unfolding first_solved
  first_or_none k [] = inr (refl, tt)
  first_or_none k (s ∷ ss) = go (solves p x s.T s.U) refl (first_or_none (suc k) ss)
    where
      go : (b : Bool) → solves p x s.T s.U ≡ b →
          First p x (suc k) (first_solved p x (suc k) ss) ss ⊎ ((first_solved p x (suc k) ss ≡ 0) × Each (λ s. ¬ Solved p x s) ss) →
          First p x k (elim b [ true ↦ k | false ↦ first_solved p x (suc k) ss ]) (s ∷ ss)
          ⊎ ((◌≡◌ {A = ℕ} (elim b [ true ↦ k | false ↦ first_solved p x (suc k) ss ]) 0) × Each (λ s. ¬ Solved p x s) (s ∷ ss))
      go true e ih = inl (record { before = []; system = s; behind = ss; parts = refl; place = omega arith; unsolved = tt; solved = (solves_is s.T s.U).0 e })
      go false e (inl f) =
          inl
          (record {
            before = s ∷ f.before;
            system = f.system;
            behind = f.behind;
            parts = ap (λ l. s ∷ l) f.parts;
            place = omega (arith, f.place);
            unsolved = (solves_not s e, f.unsolved);
            solved = f.solved;
          })
      go false e (inr h) = inr (h.0, (solves_not s e, h.1))

  first_found : (k : ℕ) (before : List System) (s : System) (behind : List System) → Each (λ s. ¬ Solved p x s) before → Solved p x s →
      first_solved p x k (before ++ (s ∷ behind)) ≡ k + length before
  unfolding first_solved
  first_found k [] s behind u h = rw ((solves_is s.T s.U).1 h, first_solved) (omega arith)
  first_found k (b ∷ before) s behind u h = rw (not_solves b u.0, first_solved) (omega (arith, first_found (suc k) before s behind u.1 h))

  -- "The place of the first system solved, from 1, or 0."
  pub place_is : (r : ℕ) (ss : List System) → 1 ≤ r → first_solved p x 1 ss ≡ r ↔ First p x 1 r ss
  place_is r ss h = (λ e. there e (first_or_none 1 ss), λ f. ap (first_solved p x 1) f.parts ∙ first_found 1 f.before f.system f.behind f.unsolved f.solved ∙ sym f.place)
    where
      there : first_solved p x 1 ss ≡ r → First p x 1 (first_solved p x 1 ss) ss ⊎ ((first_solved p x 1 ss ≡ 0) × Each (λ s. ¬ Solved p x s) ss) → First p x 1 r ss
      there e (inl f) = subst (λ q. First p x 1 q ss) e f
      there e (inr n) = absurd (omega (arith, n.0))

  pub none_is : (ss : List System) → first_solved p x 1 ss ≡ 0 ↔ Each (λ s. ¬ Solved p x s) ss
  none_is ss = (λ e. there e (first_or_none 1 ss), λ u. back u (first_or_none 1 ss))
    where
      there : first_solved p x 1 ss ≡ 0 → First p x 1 (first_solved p x 1 ss) ss ⊎ ((first_solved p x 1 ss ≡ 0) × Each (λ s. ¬ Solved p x s) ss) → Each (λ s. ¬ Solved p x s) ss
      there e (inl f) = absurd (omega (arith, f.place))
      there e (inr n) = n.1

      back : Each (λ s. ¬ Solved p x s) ss → First p x 1 (first_solved p x 1 ss) ss ⊎ ((first_solved p x 1 ss ≡ 0) × Each (λ s. ¬ Solved p x s) ss) → first_solved p x 1 ss ≡ 0
      back u (inl f) = absurd (((each_append (λ s. ¬ Solved p x s) f.before (f.system ∷ f.behind)).0 (subst (Each (λ s. ¬ Solved p x s)) f.parts u)).1.0 f.solved)
      back u (inr n) = n.0

-- ── the tests ──
-- A point tried against an accepted table is not refused.
pub table_answers : (w x : List ℕ) (t : Input) → read_table w ≡ good t → PointOf t.modulus t.variables x → try_input w x ≡ good (solves t.modulus x t.P t.Q)
unfolding try_input
table_answers w x t e h = rw (e, (point_is t.modulus t.variables x).1 h)

-- A point tried against an accepted list is not refused.
pub list_answers : (w x : List ℕ) (l : Listing) → read_list w ≡ good l → PointOf l.modulus l.variables x → try_systems w x ≡ good (first_solved l.modulus x 1 l.systems)
unfolding try_systems
list_answers w x l e h = rw (e, (point_is l.modulus l.variables x).1 h)
