-- What is done to the lists of a stored branch: putting and taking out, on polynomials as packed terms.
use Rattle.std.specs.Prelude.{Bool, true, false, ◌||◌, List, [], ◌∷◌, ◌++◌, ℕ, zero, suc, ◌-◌, length, take, drop}
use Rattle.stored.specs.Stored.{same, member}
use Rattle.polynomials.specs.declared.Term.{Term as Packed}

-- No terms: the polynomial zero.
unfoldable pub is_zero : List Packed → Bool
is_zero [] = true
is_zero (x ∷ s) = false

-- The term 1.
unfoldable pub is_one : List Packed → Bool
is_one s = same s (record { coefficient = 1; monomial = 0 } ∷ [])

abbrev pub unless : Bool → List Packed → List (List Packed) → List (List Packed)
unless true f fs = fs
unless false f fs = fs ++ (f ∷ [])

-- Put into P: dropped if zero, or if an equal one is there.
unfoldable pub put_p : List Packed → List (List Packed) → List (List Packed)
put_p f fs = unless (is_zero f || member f fs) f fs

-- Put into Q: dropped if 1, or if an equal one is there.
unfoldable pub put_q : List Packed → List (List Packed) → List (List Packed)
put_q f fs = unless (is_one f || member f fs) f fs

-- Put into Q before its last `left` members, which are not looked at.
unfoldable pub put_q_before : ℕ → List Packed → List (List Packed) → List (List Packed)
put_q_before left f fs = put_q f (take (length fs - left) fs) ++ drop (length fs - left) fs

-- The list without its member at place i.
unfoldable pub remove : ℕ → List (List Packed) → List (List Packed)
remove i [] = []
remove zero (f ∷ fs) = fs
remove (suc i) (f ∷ fs) = f ∷ remove i fs
