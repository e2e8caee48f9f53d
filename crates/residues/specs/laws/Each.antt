-- What holds of each member of a list: when lists are joined or parted, of one member, and when another statement follows.
use Rattle.std.specs.Prelude.{◌↔◌, List, [], ◌∷◌, ◌++◌, ℕ, zero, suc, ◌<◌, length, get_or, take, drop}
use Rattle.std.proofs.Common.{arith}
use Rattle.residues.specs.Each.{Each}

module _ {ℓ} {A : Type 0} (P : A → Type ℓ) where
  pub each_append : (xs ys : List A) → Each P (xs ++ ys) ↔ (Each P xs × Each P ys)
  each_append [] ys = ((λ e. (tt, e)), (λ e. e.1))
  each_append (a ∷ xs) ys =
      let ih = each_append xs ys in
      ((λ e. ((e.0, (ih.0 e.1).0), (ih.0 e.1).1)), (λ e. (e.0.0, ih.1 (e.0.1, e.1))))

  pub each_take : (n : ℕ) (xs : List A) → Each P xs → Each P (take n xs)
  each_take zero xs e = tt
  each_take (suc n) [] e = tt
  each_take (suc n) (a ∷ xs) e = (e.0, each_take n xs e.1)

  pub each_drop : (n : ℕ) (xs : List A) → Each P xs → Each P (drop n xs)
  each_drop zero xs e = e
  each_drop (suc n) [] e = tt
  each_drop (suc n) (a ∷ xs) e = each_drop n xs e.1

  pub each_member : (i : ℕ) (xs : List A) (d : A) → i < length xs → Each P xs → P (get_or xs i d)
  each_member i [] d h e = absurd (omega arith)
  each_member zero (a ∷ xs) d h e = e.0
  each_member (suc i) (a ∷ xs) d h e = each_member i xs d (omega arith) e.1

pub each_map {ℓ ℓ'} : {A : Type 0} (P : A → Type ℓ) (Q : A → Type ℓ') → ((a : A) → P a → Q a) → (xs : List A) → Each P xs → Each Q xs
each_map P Q h [] e = tt
each_map P Q h (a ∷ xs) e = (h a e.0, each_map P Q h xs e.1)

pub each_both {ℓ ℓ'} : {A : Type 0} (P : A → Type ℓ) (Q : A → Type ℓ') → (xs : List A) → Each P xs → Each Q xs → Each (λ a. P a × Q a) xs
each_both P Q [] e u = tt
each_both P Q (a ∷ xs) e u = ((e.0, u.0), each_both P Q xs e.1 u.1)
