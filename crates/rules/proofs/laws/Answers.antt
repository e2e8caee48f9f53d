-- The tests of document 01, on numbers modulo p, say of a point what the prime field says: it is a field that contains itself.
use Rattle.std.proofs.Math.Path.{◌≡◌, ap}
use Rattle.std.specs.Prelude.{refl, ◌↔◌, ◌⊎◌, Bool, eqb}
use Rattle.std.proofs.Math.Logic.{◌≢◌, inl, inr}
use mathlib.Core.List.{List, [], ◌∷◌, map}
use Rattle.std.proofs.Math.Bool.{true, false, not, and-eq-true_iff}
use Prim.Native.Nat.{ℕ, suc, ◌-◌, ◌≤◌, Fin}
use native.Mathlib.Omega.{arith}
use borrow.Author.Tests.{eqb-true, eqb-false, eq-eqb, ne_eqb, not-true}
use Rattle.residues.specs.Each.{Each}
use Rattle.residues.specs.laws.Each.{each_map}
use Rattle.residues.specs.Prime.{Prime}
use Rattle.residues.specs.Field.{Field, cast}
use Rattle.residues.specs.laws.Residues.{PrimeField, char_prime}
use Rattle.polynomials.specs.Poly.{Poly}
use Rattle.polynomials.specs.Division.{leader, initial}
use Rattle.polynomials.specs.Value.{value_modulo}
use Rattle.polynomials.specs.laws.Value.{zero_residue}
use Rattle.tables.specs.Read.{System, Input}
use Rattle.tables.specs.Solve.{is_root, all_zero, none_zero, solves, first_solved}
use Rattle.rules.specs.Room.{Limits}
use Rattle.rules.specs.Run.{finished, run_of}
use Rattle.rules.specs.Solutions.{Some, Zero, NonZero, SolvesSystem, NonZeroInitial, Proper}
use Rattle.rules.proofs.laws.Points.{zero_relation}
use Rattle.rules.proofs.laws.Initials.{initials}

module _ (p : ℕ) (prime : Prime p) (x : List ℕ) where
  -- The prime field, and the point in it.
  abbrev F : Field (Fin p)
  F = PrimeField p prime

  abbrev point : List (Fin p)
  point = map (cast F.ring) x

  value_zero : (f : Poly) → (value_modulo p f x ≡ 0) ↔ Zero F point f
  unfolding value_modulo
  value_zero f = zero_residue p prime f x

  root_zero : (f : Poly) → (is_root p x f ≡ true) ↔ Zero F point f
  unfolding is_root
  root_zero f = ((λ h. (value_zero f).0 (eqb-true (value_modulo p f x) 0 h)), (λ z. eq-eqb (value_modulo p f x) 0 ((value_zero f).1 z)))

  root_nonzero : (f : Poly) → (not (is_root p x f) ≡ true) ↔ NonZero F point f
  unfolding is_root
  root_nonzero f = (
    (λ h z. eqb-false (value_modulo p f x) 0 (not-true (eqb (value_modulo p f x) 0) h) ((value_zero f).1 z)),
    (λ n. ap not (ne_eqb (value_modulo p f x) 0 (λ e. n ((value_zero f).0 e)))),
  )

  all_zero_each : (fs : List Poly) → (all_zero p x fs ≡ true) ↔ Each (Zero F point) fs
  unfolding all_zero
  all_zero_each [] = ((λ h. tt), (λ h. refl))
  all_zero_each (f ∷ fs) =
      let both = and-eq-true_iff (is_root p x f) (all_zero p x fs) in
      ((λ h. ((root_zero f).0 (both.0 h).0, (all_zero_each fs).0 (both.0 h).1)), (λ e. both.1 ((root_zero f).1 e.0, (all_zero_each fs).1 e.1)))

  none_zero_each : (fs : List Poly) → (none_zero p x fs ≡ true) ↔ Each (NonZero F point) fs
  unfolding none_zero
  none_zero_each [] = ((λ h. tt), (λ h. refl))
  none_zero_each (f ∷ fs) =
      let both = and-eq-true_iff (not (is_root p x f)) (none_zero p x fs) in
      ((λ h. ((root_nonzero f).0 (both.0 h).0, (none_zero_each fs).0 (both.0 h).1)), (λ e. both.1 ((root_nonzero f).1 e.0, (none_zero_each fs).1 e.1)))

  solves_both : (zeros nonzeros : List Poly) → (solves p x zeros nonzeros ≡ true) ↔ (Each (Zero F point) zeros × Each (NonZero F point) nonzeros)
  unfolding solves
  solves_both zeros nonzeros =
      let both = and-eq-true_iff (all_zero p x zeros) (none_zero p x nonzeros) in (
        (λ h. ((all_zero_each zeros).0 (both.0 h).0, (none_zero_each nonzeros).0 (both.0 h).1)),
        (λ e. both.1 ((all_zero_each zeros).1 e.0, (none_zero_each nonzeros).1 e.1)),
      )

  -- A place other than 0 is answered exactly if some system is solved.
  first_solved_some : (k : ℕ) (ss : List System) → 1 ≤ k → (first_solved p x k ss ≢ 0) ↔ Some (SolvesSystem F point) ss
  unfolding first_solved
  first_solved_some k [] h = ((λ n. absurd (n refl)), (λ s. absurd s.lower))
  first_solved_some k (s ∷ ss) h = go (solves p x s.T s.U) (solves_both s.T s.U) (first_solved_some (suc k) ss (omega arith))
    where
      go : (b : Bool) → (b ≡ true) ↔ SolvesSystem F point s → (first_solved p x (suc k) ss ≢ 0) ↔ Some (SolvesSystem F point) ss →
          ◌≢◌ {A = ℕ} (elim b as (λ b. ℕ) [ true ↦ k | false ↦ first_solved p x (suc k) ss ]) 0 ↔ (SolvesSystem F point s ⊎ Some (SolvesSystem F point) ss)
      go true here ih = ((λ n. inl (here.0 refl)), (λ u z. omega arith))
      go false here ih = ((λ n. inr (ih.0 n)), (λ u. elim u [ inl v ↦ absurd (differ (here.1 v)) | inr v ↦ ih.1 v ]))
        where
          differ : false ≡ true → ⊥
          differ q = let z : ◌≡◌ {A = ℕ} 0 1 = cc in omega arith

-- The claims about points of any field, at a point of residues.
module _ (l : Limits) (limit : ℕ) (t : Input) (proper : Proper t) (n : ℕ) (ss : List System) (ended : run_of l limit t ≡ finished n ss) (x : List ℕ) where
  abbrev p : ℕ
  p = t.modulus

  abbrev prime : Prime p
  prime = proper.prime

  pub yes_with_place : (solves p x t.P t.Q ≡ true) ↔ (first_solved p x 1 ss ≢ 0)
  yes_with_place =
      let yes = solves_both p prime x t.P t.Q in
      let relation = zero_relation (F p prime x) (point p prime x) l t proper (char_prime p prime) limit n ss ended in
      let placed = first_solved_some p prime x 1 ss (omega arith) in
      ((λ h. placed.1 (relation.0 (yes.0 h))), (λ h. yes.1 (relation.1 (placed.0 h))))

  pub initials_modulo : Each (λ s. solves p x s.T s.U ≡ true → Each (λ f. value_modulo p (initial (leader f - 1) f) x ≢ 0) s.T) ss
  initials_modulo = each_map _ _ at_system ss (initials (F p prime x) (point p prime x) l t proper (char_prime p prime) limit n ss ended)
    where
      at_system : (s : System) → (SolvesSystem (F p prime x) (point p prime x) s → Each (NonZeroInitial (F p prime x) (point p prime x)) s.T) →
          solves p x s.T s.U ≡ true → Each (λ f. value_modulo p (initial (leader f - 1) f) x ≢ 0) s.T
      at_system s h e =
          each_map _ _ (λ f u z. u ((value_zero p prime x (initial (leader f - 1) f)).0 z)) s.T (h ((solves_both p prime x s.T s.U).0 e))
