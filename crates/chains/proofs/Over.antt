-- A block written over a part of a list, and two blocks side by side.
use mathlib.Core.Path.{◌≡◌, refl, sym, ap, ◌∙◌}
use mathlib.Core.List.{List, [], ◌∷◌, ◌++◌, append_assoc}
use Prim.Native.Nat.{ℕ, ◌+◌, ◌-◌, ◌*◌, ◌≤◌}
use native.Mathlib.Omega.{arith}
use Rattle.std.proofs.lemmas.List.{get_or-append_right}
use Rattle.std.proofs.lemmas.List.Edits.{paste_all}
use lib.ListN.{length, get_or, take, drop, length-append, take-append-drop}
use lib.Seq.{paste, take_all, length-take-le, take_at, drop_at, drop-append-add, drop-drop, take-append-le, take-take}

-- d with s in the places from `at` on.
pub over : List ℕ → ℕ → List ℕ → List ℕ
over d at s = take at d ++ (s ++ drop (at + length s) d)

pub paste_over : (d : List ℕ) (at : ℕ) (s : List ℕ) (n : ℕ) → length s ≡ n → paste d at s n ≡ over d at s
unfolding over
paste_over d at s n l =
    (λ t. take at d ++ take_all n s (omega arith) t ++ drop (at + sym l t) d) ∙ append_assoc (take at d) s (drop (at + length s) d)

pub over_nil : (d : List ℕ) (at : ℕ) → over d at [] ≡ d
unfolding over
over_nil d at =
    let same : at + 0 ≡ at = omega arith in
    ap (λ (k : ℕ). take at d ++ drop k d) same ∙ take-append-drop at d

-- t right behind s.
pub over_behind : (d : List ℕ) (at : ℕ) (s : List ℕ) (j : ℕ) (t : List ℕ) → at + length s ≡ j → j ≤ length d → over (over d at s) j t ≡ over d at (s ++ t)
unfolding over
over_behind d at s j t e h =
    let F : List ℕ = take at d ++ s in
    let R : List ℕ = drop (at + length s) d in
    let D : List ℕ = drop (at + length (s ++ t)) d in
    let lF : length F ≡ j = omega (arith, length-append (take at d) s, length-take-le at d (omega arith)) in
    let is : over d at s ≡ F ++ R = sym (append_assoc (take at d) s R) in
    let to : j + length t ≡ length F + length t = omega arith in
    let end : at + length s + length t ≡ at + length (s ++ t) = omega (arith, length-append s t) in
    let back : drop (j + length t) (over d at s) ≡ D =
    (λ k. drop (to k) (is k)) ∙ drop-append-add F R (length t) ∙ drop-drop (length t) (at + length s) d ∙ ap (λ (k : ℕ). drop k d) end in
    (λ k. (ap (take j) is ∙ take_at F R j lF) k ++ (t ++ back k))
    ∙ append_assoc (take at d) s (t ++ D) ∙ ap (λ (l : List ℕ). take at d ++ l) (sym (append_assoc s t D))

-- s right before t.
pub over_before : (d : List ℕ) (at : ℕ) (s : List ℕ) (j : ℕ) (t : List ℕ) → at + length s ≡ j → j ≤ length d → over (over d j t) at s ≡ over d at (s ++ t)
unfolding over
over_before d at s j t e h =
    let F : List ℕ = take j d in
    let D : List ℕ = drop (at + length (s ++ t)) d in
    let lF : length F ≡ j = length-take-le j d h in
    let end : j + length t ≡ at + length (s ++ t) = omega (arith, length-append s t) in
    let is : over d j t ≡ F ++ (t ++ D) = ap (λ (k : ℕ). F ++ (t ++ drop k d)) end in
    let front : take at (over d j t) ≡ take at d =
    ap (take at) is ∙ take-append-le at F (t ++ D) (omega arith) ∙ take-take at j d (omega arith) in
    let back : drop (at + length s) (over d j t) ≡ t ++ D = ap (drop (at + length s)) is ∙ drop_at F (t ++ D) (at + length s) (omega arith) in
    (λ k. front k ++ (s ++ back k)) ∙ ap (λ (l : List ℕ). take at d ++ l) (sym (append_assoc s t D))

-- At the front.
pub over_front : (d s : List ℕ) → over d 0 s ≡ s ++ drop (length s) d
unfolding over
over_front d s = let same : 0 + length s ≡ length s = omega arith in ap (λ (k : ℕ). s ++ drop k d) same

-- What is written right behind a record that was written.
pub record_behind : (out : List ℕ) (p p' a b x y : ℕ) (t : List ℕ) → p' ≡ p + 1 → 4 * p + 4 ≤ length out
    → over (paste out (4 * p) (a ∷ b ∷ x ∷ y ∷ []) 4) (4 * p') t ≡ over out (4 * p) (a ∷ b ∷ x ∷ y ∷ t)
record_behind out p p' a b x y t to h =
    ap (λ (l : List ℕ). over l (4 * p') t) (paste_over out (4 * p) (a ∷ b ∷ x ∷ y ∷ []) 4 refl)
    ∙ over_behind out (4 * p) (a ∷ b ∷ x ∷ y ∷ []) (4 * p') t (omega arith) (omega arith)

-- A word of a record that was written.
pub record_word : (out : List ℕ) (at a b x y k : ℕ) → at + 4 ≤ length out
    → get_or (paste out at (a ∷ b ∷ x ∷ y ∷ []) 4) (at + k) 0 ≡ get_or (a ∷ b ∷ x ∷ y ∷ drop (at + 4) out) k 0
record_word out at a b x y k h =
    let to : at + k - at ≡ k = omega arith in
    ap (λ (l : List ℕ). get_or l (at + k) 0) (paste_all out at (a ∷ b ∷ x ∷ y ∷ []) 4 refl)
    ∙ get_or-append_right (take at out) (a ∷ b ∷ x ∷ y ∷ drop (at + 4) out) at (at + k) 0 (length-take-le at out (omega arith)) (omega arith)
    ∙ ap (λ (n : ℕ). get_or (a ∷ b ∷ x ∷ y ∷ drop (at + 4) out) n 0) to
