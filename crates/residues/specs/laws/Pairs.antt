-- Two words side by side in a list of words: behind j others, and written behind k others.
use Rattle.std.specs.Prelude.{◌≡◌, List, [], ◌∷◌, ◌++◌, ℕ, suc, ◌+◌, ◌<◌, length, get_or, take, drop, set}
use Rattle.std.proofs.Common.{sym, ap, ap₂, ◌∙◌, append_assoc, arith, length-set, drop-cons, take-suc-set}

pub drop_pair : (s : List ℕ) (j : ℕ) → j + 1 < length s → drop j s ≡ get_or s j 0 ∷ (get_or s (j + 1) 0 ∷ drop (j + 2) s)
drop_pair s j h = drop-cons s j 0 (omega arith) ∙ ap (λ z. get_or s j 0 ∷ z) (drop-cons s (suc j) 0 (omega arith) ∙ ap₂ (λ (u v : ℕ). get_or s u 0 ∷ drop v s) one two)
  where
    one : suc j ≡ j + 1
    one = omega arith

    two : suc (suc j) ≡ j + 2
    two = omega arith

pub take_set_pair : (s : List ℕ) (k a b : ℕ) → k + 1 < length s → take (k + 2) (set (set s k a) (k + 1) b) ≡ take k s ++ (a ∷ (b ∷ []))
take_set_pair s k a b h =
    ap (λ (j : ℕ). take j (set (set s k a) (k + 1) b)) two
    ∙ take-suc-set (set s k a) (k + 1) b (simp length-set (omega arith))
    ∙ ap (λ (p : List ℕ). p ++ (b ∷ [])) (ap (λ (j : ℕ). take j (set s k a)) (sym one) ∙ take-suc-set s k a (omega arith))
    ∙ append_assoc (take k s) (a ∷ []) (b ∷ [])
  where
    one : suc k ≡ k + 1
    one = omega arith

    two : k + 2 ≡ suc (k + 1)
    two = omega arith
