-- The records of a polynomial, written one after the other, and a move and a store one after the other.
use Rattle.std.proofs.Common.{◌≡◌, sym, ap, ◌∙◌, List, ◌++◌, append_assoc, ℕ, ◌+◌, ◌≤◌, ◌<◌, length, get_or, set, take, drop, add-one, add-zero, arith, length-take-le}
use Rattle.std.proofs.Math.Seq.{paste, drop_at, take-append-le, take-take}
use Rattle.std.proofs.lemmas.List.{get_or-map, take_all}
use Rattle.std.proofs.lemmas.List.Edits.{paste_none, paste_more}
use Rattle.polynomials.specs.declared.Term.{Term as Packed}
use Rattle.records.specs.Records.{Rec, zero_record, moved}
use Rattle.stored.specs.Stored.{head, term_record, poly_records, inserted, removed}
use Rattle.stored.specs.laws.Stored.{length_poly_records}

-- What a read finds past the end.
abbrev pub zero_term : Packed
zero_term = record { coefficient = 0; monomial = 0 }

-- The record of the term i stands behind the head.
get_or-poly_records : (f : List Packed) (i : ℕ) → i < length f → get_or (poly_records f) (i + 1) zero_record ≡ term_record (get_or f i zero_term)
get_or-poly_records f i h = rw add-one (get_or-map term_record f i zero_term zero_record h)

-- The head written, then a term behind it.
pub head_written : (v : List Rec) (f : List Packed) (at : ℕ) → at < length v → set v at (head (length f)) ≡ paste v at (poly_records f) (0 + 1)
head_written v f at h =
    (λ t. set (paste_none v at (poly_records f) t) (sym (add-zero at) t) (head (length f)))
    ∙ paste_more v at (poly_records f) 0 zero_record (omega arith) (omega arith)

pub term_written : (v : List Rec) (f : List Packed) (at i : ℕ) → at + 1 + i < length v → i < length f
    → set (paste v at (poly_records f) (i + 1)) (at + 1 + i) (term_record (get_or f i zero_term)) ≡ paste v at (poly_records f) (i + 1 + 1)
term_written v f at i h k =
    let to : at + 1 + i ≡ at + (i + 1) = omega arith in
    (λ t. set (paste v at (poly_records f) (i + 1)) (to t) (sym (get_or-poly_records f i k) t))
    ∙ paste_more v at (poly_records f) (i + 1) zero_record (omega arith) (omega (arith, length_poly_records f))

-- The m records at `at` moved up by the records of f, and these written there.
pub moved_then_stored : (v : List Rec) (f : List Packed) (at m : ℕ) → at + (length f + 1 + m) ≤ length v
    → paste (moved v at m (at + (length f + 1))) at (poly_records f) (length f + 1) ≡ inserted v at m (poly_records f)
moved_then_stored v f at m fits =
    let b : List Rec = poly_records f in
    let n : ℕ = length f + 1 in
    let l : length b ≡ n = length_poly_records f in
    let X : List Rec = take (at + n) v in
    let Y : List Rec = take m (drop at v) in
    let Z : List Rec = drop (at + n + m) v in
    let lX : length X ≡ at + n = length-take-le (at + n) v (omega arith) in
    let end : at + n + m ≡ at + (length b + m) = omega arith in
    let front : take at (X ++ (Y ++ Z)) ≡ take at v = take-append-le at X (Y ++ Z) (omega arith) ∙ take-take at (at + n) v (omega arith) in
    (λ t. take at (append_assoc X Y Z t) ++ take_all n b (omega arith) t ++ drop (at + n) (append_assoc X Y Z t))
    ∙ (λ t. front t ++ b ++ drop_at X (Y ++ Z) (at + n) lX t)
    ∙ append_assoc (take at v) b (Y ++ Z)
    ∙ ap (λ (k : ℕ). take at v ++ (b ++ (Y ++ drop k v))) end

-- The records behind n records at `at` moved down over these.
pub moved_down : (v : List Rec) (at n k m : ℕ) → k ≡ m → moved v (at + n) k at ≡ removed v at n m
moved_down v at n k m e =
    ap (λ (m : ℕ). moved v (at + n) m at) e ∙ append_assoc (take at v) (take m (drop (at + n) v)) (drop (at + m) v)
