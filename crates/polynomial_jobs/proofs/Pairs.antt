-- The terms of pairs of words, put one after another.
use Rattle.std.proofs.Common.{◌≡◌, refl, sym, ◌∙◌, ap, ap₂, List, [], ◌∷◌, ◌++◌, ℕ, zero, suc, ◌+◌, ◌*◌, ◌/◌, ◌≤◌, ◌<◌, true, arith, length, take, get_or}
use Rattle.std.proofs.Math.ListN.{set}
use Rattle.std.proofs.Math.Seq.{take-length}
use Rattle.std.proofs.lemmas.List.{take_more, take_more_set}
use Rattle.polynomials.specs.declared.Term.{Term as Packed}
use Rattle.forms.specs.Words.{paired, words_are_held}
use Rattle.forms.proofs.HeldLaws.{length_paired, holds_of_words}

-- The pair at words 2i and 2i + 1.
abbrev pair : List ℕ → ℕ → Packed
pair s i = record { coefficient = get_or s (2 * i) 0; monomial = get_or s (2 * i + 1) 0 }

get_or-paired : (s : List ℕ) (i : ℕ) (d : Packed) → 2 * i + 1 < length s → get_or (paired s) i d ≡ pair s i
unfolding paired
get_or-paired [] i d h = absurd (omega arith)
get_or-paired (c ∷ []) i d h = absurd (omega arith)
get_or-paired (c ∷ (m ∷ s)) zero d h = refl
get_or-paired (c ∷ (m ∷ s)) (suc i) d h =
    let first : suc (suc (2 * i)) ≡ 2 * suc i = omega arith in
    let second : suc (suc (2 * i + 1)) ≡ 2 * suc i + 1 = omega arith in
    get_or-paired s i d (omega arith)
    ∙ (λ t. record { coefficient = get_or (c ∷ (m ∷ s)) (first t) 0; monomial = get_or (c ∷ (m ∷ s)) (second t) 0 })

-- As many pairs as words, halved.
pub count : (s : List ℕ) → length s / 2 ≡ length (paired s)
count s = omega (arith, length_paired s)

-- One pair more is put behind the others.
pub put : (s : List ℕ) (i : ℕ) (out : List Packed) → i < length s / 2 → i < length out → take i out ≡ take i (paired s)
    → take (i + 1) (set out i (record { coefficient = get_or s (2 * i) 0; monomial = get_or s (2 * i + 1) 0 })) ≡ take (i + 1) (paired s)
put s i out h l kept =
    take_more_set out i (pair s i) l
    ∙ ap₂ (λ (x : List Packed) (t : Packed). x ++ (t ∷ [])) kept (sym (get_or-paired s i (pair s i) (omega arith)))
    ∙ sym (take_more (paired s) i (pair s i) (omega (arith, count s)))

-- A polynomial that is held has at most 256 terms.
pub few : (p : ℕ) (s : List ℕ) → words_are_held p s ≡ true → length (paired s) ≤ 256
few p s h = (holds_of_words p s h).1.few

-- All are put.
pub all_put : (s : List ℕ) (i : ℕ) (out : List Packed) → i ≡ length s / 2 → take i out ≡ take i (paired s) → take (length s / 2) out ≡ paired s
all_put s i out e kept = ap (λ (n : ℕ). take n out) (sym e) ∙ kept ∙ ap (λ (n : ℕ). take n (paired s)) (e ∙ count s) ∙ take-length (paired s)
