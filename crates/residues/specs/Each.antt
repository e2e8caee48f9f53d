-- What holds of each member of a list.
use Rattle.std.specs.Prelude.{List, [], ◌∷◌}

module _ {ℓ} {A : Type 0} (P : A → Type ℓ) where
  abbrev pub Each : List A → Type ℓ
  Each [] = Unit {ℓ}
  Each (a ∷ xs) = P a × Each xs
