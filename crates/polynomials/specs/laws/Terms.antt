-- The polynomial that packed terms are, by parts of their list: taken, left out, read, and written at the end.
use Rattle.std.specs.Prelude.{◌≡◌, List, [], ◌∷◌, ◌++◌, map, ℕ, ◌+◌, ◌<◌, length, take, drop, get_or, set}
use Rattle.std.proofs.Common.{sym, ◌∙◌, ap, append_assoc, add-one}
use Rattle.std.proofs.lemmas.List.{map-append, take-map, drop-map, length-map, take_more_set}
use Rattle.std.proofs.Math.Seq.{drop-cons}
use Rattle.polynomials.specs.Poly.{Poly}
use Rattle.polynomials.specs.Packed.{term, terms}
use Rattle.polynomials.specs.declared.Term.{Term as Packed}

pub length_terms : (s : List Packed) → length (terms s) ≡ length s
unfolding terms
length_terms s = length-map s term

pub terms_append : (s t : List Packed) → terms (s ++ t) ≡ terms s ++ terms t
unfolding terms
terms_append s t = map-append term s t

pub terms_take : (n : ℕ) (s : List Packed) → terms (take n s) ≡ take n (terms s)
unfolding terms
terms_take n s = sym (take-map term n s)

pub terms_drop : (n : ℕ) (s : List Packed) → terms (drop n s) ≡ drop n (terms s)
unfolding terms
terms_drop n s = sym (drop-map term n s)

-- The term at place i, and those behind it.
pub terms_at : (s : List Packed) (i : ℕ) (t : Packed) → i < length s → terms (drop i s) ≡ term (get_or s i t) ∷ terms (drop (i + 1) s)
unfolding terms
terms_at s i t h = rw add-one (ap (map term) (drop-cons s i t h))

-- A term written behind k terms.
pub terms_push : (s : List Packed) (k : ℕ) (t : Packed) → k < length s → terms (take (k + 1) (set s k t)) ≡ terms (take k s) ++ (term t ∷ [])
unfolding terms
terms_push s k t h = ap (map term) (take_more_set s k t h) ∙ map-append term (take k s) (t ∷ [])

-- The same, with y behind it.
pub terms_push_before : (s : List Packed) (k : ℕ) (t : Packed) (x y : Poly) → k < length s → x ≡ term t ∷ y
    → terms (take (k + 1) (set s k t)) ++ y ≡ terms (take k s) ++ x
terms_push_before s k t x y h q =
    ap (λ z. z ++ y) (terms_push s k t h) ∙ append_assoc (terms (take k s)) (term t ∷ []) y ∙ ap (λ z. terms (take k s) ++ z) (sym q)
