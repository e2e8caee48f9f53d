-- Putting into Q before its last members, and taking a member out.
use Rattle.std.specs.Prelude.{◌≡◌, refl, List, [], ◌∷◌, ◌++◌, ℕ, zero, suc, ◌+◌, ◌-◌, ◌<◌, length, take, drop}
use Rattle.std.proofs.Common.{sym, ap, ap₂, ◌∙◌, append-nil, arith, length-append, take_at, drop_at}
use Rattle.residues.specs.Each.{Each}
use Rattle.branches.specs.Words.{put_q, put_q_before, remove}
use Rattle.polynomials.specs.declared.Term.{Term as Packed}

-- The members before the last `left` are put to, the others stay.
pub put_q_before_in_parts : (left : ℕ) (f : List Packed) (new old : List (List Packed)) → length old ≡ left → put_q_before left f (new ++ old) ≡ put_q f new ++ old
unfolding put_q_before
put_q_before_in_parts left f new old q =
    let to : length new ≡ length (new ++ old) - left = omega (arith, length-append new old) in
    ap₂ (λ (a b : List (List Packed)). put_q f a ++ b) (take_at new old (length (new ++ old) - left) to) (drop_at new old (length (new ++ old) - left) to)

-- All of Q is looked at.
pub put_q_before_none : (f : List Packed) (fs : List (List Packed)) → put_q_before 0 f fs ≡ put_q f fs
unfolding put_q_before
put_q_before_none f fs = ap (put_q_before 0 f) (sym (append-nil fs)) ∙ put_q_before_in_parts 0 f fs [] refl ∙ append-nil (put_q f fs)

-- A list without its member at place i.
pub remove_in_parts : (i : ℕ) (fs : List (List Packed)) → remove i fs ≡ take i fs ++ drop (suc i) fs
unfolding remove
remove_in_parts zero [] = refl
remove_in_parts (suc i) [] = refl
remove_in_parts zero (f ∷ fs) = refl
remove_in_parts (suc i) (f ∷ fs) = ap (λ (l : List (List Packed)). f ∷ l) (remove_in_parts i fs)

pub length_remove : (i : ℕ) (fs : List (List Packed)) → i < length fs → length (remove i fs) + 1 ≡ length fs
unfolding remove
length_remove i [] h = absurd (omega arith)
length_remove zero (f ∷ fs) h = omega arith
length_remove (suc i) (f ∷ fs) h = omega (arith, length_remove i fs (omega arith))

pub each_remove : (G : List Packed → Type 0) (i : ℕ) (fs : List (List Packed)) → Each G fs → Each G (remove i fs)
unfolding remove
each_remove G i [] h = tt
each_remove G zero (f ∷ fs) h = h.1
each_remove G (suc i) (f ∷ fs) h = (h.0, each_remove G i fs h.1)
