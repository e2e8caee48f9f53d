-- What holds of each member of a list, or of some, when members are added and removed.
use Rattle.std.specs.Prelude.{◌≡◌, refl, ◌≢◌, ◌↔◌, ◌⊎◌}
use Rattle.std.proofs.Common.{sym, inl, inr}
use Rattle.std.proofs.Math.Path.{subst}
use mathlib.Core.List.{List, [], ◌∷◌, ◌++◌}
use Prim.Native.Nat.{ℕ, zero, suc}
use Rattle.residues.specs.Each.{Each}
use Rattle.polynomials.specs.Poly.{Poly}
use Rattle.rules.specs.Branch.{remove}
use Rattle.rules.specs.Solutions.{Some}

module _ {ℓ} {A : Type 0} (P : A → Type ℓ) where
  pub some_append : (xs : List A) (a : A) → Some P (xs ++ (a ∷ [])) ↔ (P a ⊎ Some P xs)
  some_append [] a = ((λ s. s), (λ s. s))
  some_append (b ∷ xs) a = (there (some_append xs a).0, back (some_append xs a).1)
    where
      there : (Some P (xs ++ (a ∷ [])) → P a ⊎ Some P xs) → P b ⊎ Some P (xs ++ (a ∷ [])) → P a ⊎ (P b ⊎ Some P xs)
      there ih (inl h) = inr (inl h)
      there ih (inr s) = elim (ih s) [ inl h ↦ inl h | inr u ↦ inr (inr u) ]

      back : (P a ⊎ Some P xs → Some P (xs ++ (a ∷ []))) → P a ⊎ (P b ⊎ Some P xs) → P b ⊎ Some P (xs ++ (a ∷ []))
      back ih (inl h) = inr (ih (inl h))
      back ih (inr (inl h)) = inl h
      back ih (inr (inr s)) = inr (ih (inr s))

-- f stands at place i of the list.
abbrev pub At : ℕ → Poly → List Poly → Type 0
At i f [] = ⊥
At zero f (g ∷ fs) = f ≡ g
At (suc i) f (g ∷ fs) = At i f fs

module _ {ℓ} (P : Poly → Type ℓ) where
  -- The member at place i apart.
  pub each_apart : (i : ℕ) (f : Poly) (fs : List Poly) → At i f fs → Each P fs ↔ (P f × Each P (remove i fs))
  unfolding remove
  each_apart i f [] a = absurd a
  each_apart zero f (g ∷ fs) a = ((λ e. (subst P (sym a) e.0, e.1)), (λ e. (subst P a e.0, e.1)))
  each_apart (suc i) f (g ∷ fs) a =
      let ih = each_apart i f fs a in
      ((λ e. ((ih.0 e.1).0, (e.0, (ih.0 e.1).1))), (λ e. (e.1.0, ih.1 (e.0, e.1.1))))

  -- The member at place i is among those left when another place is removed.
  pub each_remove_other : (i j : ℕ) (f : Poly) (fs : List Poly) → At i f fs → i ≢ j → Each P (remove j fs) → P f
  unfolding remove
  each_remove_other i j f [] a n e = absurd a
  each_remove_other zero zero f (g ∷ fs) a n e = absurd (n refl)
  each_remove_other zero (suc j) f (g ∷ fs) a n e = subst P (sym a) e.0
  each_remove_other (suc i) zero f (g ∷ fs) a n e = ((each_apart i f fs a).0 e).0
  each_remove_other (suc i) (suc j) f (g ∷ fs) a n e = each_remove_other i j f fs a (λ q. n (ap_suc q)) e.1
    where
      ap_suc : i ≡ j → suc i ≡ suc j
      ap_suc q = cc
