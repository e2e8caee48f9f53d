-- The laws of `view`: its length, its record at an index, and what becomes of it when a record is written, and when records are copied.
use Rattle.std.proofs.Common.{◌≡◌, sym, ap, ◌∙◌, ℕ, List, [], ◌∷◌, length, get_or, set, take, drop, ◌++◌, ◌+◌, ◌-◌}
use Rattle.std.specs.List.{copy_within, drop-map}
use Rattle.std.proofs.Math.Seq.{paste}
use Rattle.std.proofs.Math.ListN.{get_or-map}
use Rattle.std.proofs.lemmas.List.{map-set, length-map, map-append, take-map}
use Rattle.records.specs.Records.{Rec, record_of, zero_record, record_at, view, moved}

pub length_view : (w : List (List ℕ)) → length (view w) ≡ length w
length_view w = length-map w record_at

pub view_at : (w : List (List ℕ)) (i : ℕ) → get_or (view w) i zero_record ≡ record_at (get_or w i [])
view_at w i = get_or-map record_at w i []

-- The words of a record, as reads of them give them.
pub word_0 : (w : List (List ℕ)) (i : ℕ) → get_or (get_or w i []) 0 0 ≡ (get_or (view w) i zero_record).w0
word_0 w i = ap (λ (r : Rec). r.w0) (sym (view_at w i))

pub word_1 : (w : List (List ℕ)) (i : ℕ) → get_or (get_or w i []) 1 0 ≡ (get_or (view w) i zero_record).w1
word_1 w i = ap (λ (r : Rec). r.w1) (sym (view_at w i))

pub word_2 : (w : List (List ℕ)) (i : ℕ) → get_or (get_or w i []) 2 0 ≡ (get_or (view w) i zero_record).w2
word_2 w i = ap (λ (r : Rec). r.w2) (sym (view_at w i))

pub word_3 : (w : List (List ℕ)) (i : ℕ) → get_or (get_or w i []) 3 0 ≡ (get_or (view w) i zero_record).w3
word_3 w i = ap (λ (r : Rec). r.w3) (sym (view_at w i))

pub view_set : (w : List (List ℕ)) (i a b c d : ℕ) → view (set w i (a ∷ b ∷ c ∷ d ∷ [])) ≡ set (view w) i (record_of a b c d)
view_set w i a b c d = map-set record_at w i (a ∷ b ∷ c ∷ d ∷ [])

pub view_paste : (xs w : List (List ℕ)) (at n : ℕ) → view (paste w at xs n) ≡ paste (view w) at (view xs) n
view_paste xs w at n =
    let front = sym (take-map record_at at w) in
    let middle = sym (take-map record_at n xs) in
    let back = sym (drop-map record_at (at + n) w) in
    map-append record_at (take at w ++ take n xs) (drop (at + n) w)
    ∙ (λ k. map-append record_at (take at w) (take n xs) k ++ back k)
    ∙ (λ k. front k ++ middle k ++ drop (at + n) (view w))

pub view_copied : (w : List (List ℕ)) (i j to : ℕ) → view (copy_within w i j to) ≡ moved (view w) i (j - i) to
view_copied w i j to = view_paste (drop i w) w to (j - i) ∙ ap (λ v. paste (view w) to v (j - i)) (sym (drop-map record_at i w))
