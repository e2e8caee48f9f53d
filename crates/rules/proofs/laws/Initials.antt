-- Where a point solves a listed system, no initial of its triangular list vanishes there.
use Rattle.std.specs.Prelude.{◌≡◌, List, ◌∷◌, ℕ}
use Rattle.std.proofs.Common.{sym, subst, inl, inr}
use Rattle.std.proofs.Math.Logic.{Lift}
use Rattle.residues.specs.Each.{Each}
use Rattle.residues.specs.laws.Each.{each_append}
use Rattle.residues.specs.Field.{Field, Contains}
use Rattle.residues.specs.laws.Residues.{one≤}
use Rattle.polynomials.specs.Canonical.{Canonical}
use Rattle.polynomials.specs.Division.{initial}
use Rattle.tables.specs.Read.{System, Input}
use Rattle.rules.specs.Branch.{Branch}
use Rattle.rules.specs.Room.{Limits, State}
use Rattle.rules.specs.Run.{finished, first_branch, run_of}
use Rattle.rules.specs.Solutions.{NonZero, SolvesSystem, NonZeroInitial, Proper}
use Rattle.rules.proofs.laws.Lists.{each_apart}
use Rattle.rules.proofs.laws.Taken.{after_close, Taken, by_drop, by_list, by_split, by_divide, by_close}
use Rattle.rules.proofs.laws.Runs.{run_of_keeps}
use Rattle.rules.proofs.laws.Kept.{OfBranch, OfState, pivot_variable, taken_keeps, first_keeps, canonical_by, canonical_closed}
use Rattle.rules.proofs.laws.Points.{SolvesBranch, initial_nonzero, list_same, split_both, divide_same, close_same}

module _ {ℓ} {K : Type ℓ} (F : Field K) (x : List K) (l : Limits) (t : Input) (proper : Proper t) (char : Contains F t.modulus) where
  abbrev p : ℕ
  p = t.modulus

  abbrev InBranch : Branch → Type ℓ
  InBranch b = SolvesBranch F x b → Each (NonZeroInitial F x) b.T

  abbrev InSystem : System → Type ℓ
  InSystem s = SolvesSystem F x s → Each (NonZeroInitial F x) s.T

  abbrev KeptInitials : State → Type ℓ
  KeptInitials s = Lift {0, ℓ} (OfState (Canonical p) s) × Each InBranch s.branches × Each InSystem s.systems

  step_initials : (b : Branch) (waiting : List Branch) (listed : List System) (s : State) → Taken l p b waiting listed s → OfBranch (Canonical p) b →
      InBranch b → Each InBranch waiting → Each InSystem listed → Each InBranch s.branches × Each InSystem s.systems
  step_initials b waiting listed s (by_drop _) c h w u = (w, u)
  step_initials b waiting listed s (by_list q) c h w u =
      (w, (each_append InSystem listed _).1 (u, ((λ o. h ((list_same F x l p proper.prime char b q).1 o)), tt)))
  step_initials b waiting listed s (by_split k f v) c h w u =
      let both = split_both F x l p proper.prime char k f b c v.stands in
      (((λ o. h (both.1 (inl o))), ((λ o. h (both.1 (inr o))), w)), u)
  step_initials b waiting listed s (by_divide k f g r v y a n o e) c h w u =
      let canonical_r = canonical_by l p (one≤ proper.prime) k f.poly g.poly r ((each_apart (Canonical p) g.place g.poly b.P a).0 c.0).0 e in
      (((λ o. h ((divide_same F x l p proper.prime char k f g r b canonical_r v.stands y a n e).1 o)), w), u)
  step_initials b waiting listed s (by_close k f Q v y o e) c h w u = ((closes, w), u)
    where
      closes : SolvesBranch F x (after_close f Q b) → Each (NonZeroInitial F x) (f.poly ∷ b.T)
      closes o =
          let before = (close_same F x l p proper.prime char k f Q b c.1 v.stands y e).1 o in
          (subst (λ (j : ℕ). NonZero F x (initial j f.poly)) (sym (pivot_variable k f b v)) (initial_nonzero F x k f b y before.1), h before)

  keeps_initials : (b : Branch) (waiting : List Branch) (listed : List System) (s : State) → Taken l p b waiting listed s →
      KeptInitials (record { branches = b ∷ waiting; systems = listed }) → KeptInitials s
  keeps_initials b waiting listed s k h =
      let stepped = step_initials b waiting listed s k h.0.lower.0.0 h.1.0 h.1.1 h.2 in
      (record { lower = taken_keeps l p (Canonical p) (canonical_closed l p (one≤ proper.prime)) b waiting listed s k h.0.lower }, stepped.0, stepped.1)

  pub initials : (limit n : ℕ) (ss : List System) → run_of l limit t ≡ finished n ss → Each InSystem ss
  unfolding first_branch
  initials limit n ss e =
      (run_of_keeps l t KeptInitials keeps_initials limit n ss e
      (record { lower = first_keeps l t (Canonical p) (canonical_closed l p (one≤ proper.prime)) proper.canonical_p proper.canonical_q }, ((λ s. tt), tt), tt)).2
