-- What the single claim of Promise.antt is put together from: the two tests at one point.
use Rattle.std.specs.Prelude.{◌≡◌, refl, ◌≢◌, ◌↔◌, Bool, true, false, List, [], ◌∷◌, ◌++◌, ℕ, zero, suc}
use Rattle.std.proofs.Common.{sym, ◌∙◌, ap, subst, inl, inr, true≢false, arith}
use Rattle.std.proofs.lemmas.Bool.{false≢true}
use Rattle.residues.specs.Each.{Each}
use Rattle.tables.specs.Read.{Read, good, System}
use Rattle.tables.specs.Solve.{first_solved}
use Rattle.tables.specs.laws.Linked.{good_same}
use Rattle.tables.specs.Solved.{Solved, First}
use Rattle.tables.specs.laws.Solved.{place_is, none_is}
use Rattle.rules.specs.Solutions.{Some}

-- ── answers ──
-- A test that answers a says b exactly if a is b.
pub good_iff : {A : Type 0} {r : Read A} {a : A} → r ≡ good a → (b : A) → r ≡ good b ↔ a ≡ b
good_iff e b = (λ h. good_same (sym e ∙ h), λ h. e ∙ ap good h)

-- ── some system, and the first ──
module _ {A : Type 0} (P : A → Type 0) where
  some_there : (before : List A) (a : A) (behind : List A) → P a → Some P (before ++ (a ∷ behind))
  some_there [] a behind h = inl h
  some_there (b ∷ before) a behind h = inr (some_there before a behind h)

  some_not_none : (l : List A) → Some P l → Each (λ a. ¬ P a) l → ⊥
  some_not_none [] s n = s.lower
  some_not_none (a ∷ l) (inl h) n = n.0 h
  some_not_none (a ∷ l) (inr s) n = some_not_none l s n.1

module _ (p : ℕ) (x : List ℕ) (ss : List System) where
  first_some : (r : ℕ) → First p x 1 r ss → Some (Solved p x) ss
  first_some r f = subst (Some (Solved p x)) (sym f.parts) (some_there (Solved p x) f.before f.system f.behind f.solved)

  -- A place from 1 is that of some system solved.
  pub place_some : (first_solved p x 1 ss ≢ 0) ↔ Some (Solved p x) ss
  place_some = (
    λ n. let k : first_solved p x 1 ss ≡ 0 → ⊥ = n in
        first_some (first_solved p x 1 ss) ((place_is p x (first_solved p x 1 ss) ss (omega (arith, k))).0 refl),
    λ s z. some_not_none (Solved p x) ss s ((none_is p x ss).0 z),
  )

-- No goes with 0 where yes goes with a place.
pub no_zero : (b : Bool) (k : ℕ) → (b ≡ true) ↔ (k ≢ 0) → (b ≡ false) ↔ (k ≡ 0)
no_zero true k h = ((λ e. absurd (true≢false e)), (λ z. absurd (h.0 refl z)))
no_zero false zero h = ((λ e. refl), (λ z. refl))
no_zero false (suc k) h = ((λ e. absurd (false≢true (h.1 (λ z. omega arith)))), (λ z. absurd (omega arith)))
