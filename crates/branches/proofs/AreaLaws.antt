-- Where the polynomials of the open branch lie in the records, and what putting one in or taking one out leaves. All of them, P then Q then T, are
-- looked at as one list.
use mathlib.Core.Path.{◌≡◌, sym, ap, ap₂, ◌∙◌}
use mathlib.Core.List.{List, [], ◌∷◌, ◌++◌, append_assoc}
use Prim.Native.Nat.{ℕ, suc, ◌+◌, ◌-◌, ◌≤◌, ◌<◌}
use native.Mathlib.Omega.{arith}
use lib.ListN.{length, take, drop, get_or, set, length-append, length-drop, take-append-drop}
use lib.Seq.{get_or_at, set_at, drop-append-le, split_at}
use Rattle.residues.specs.Each.{Each}
use Rattle.records.specs.Records.{Rec, record_of, zero_record}
use Rattle.stored.specs.Stored.{poly_records, polys_records, size_at, poly_at, skip_to, polys_at, inserted, removed, Storable}
use Rattle.stored.specs.laws.Stored.{length_poly_records, polys_records_append, size_at_poly_records, poly_at_poly_records, skip_to_polys_records}
use Rattle.stored.specs.laws.Stored.{polys_at_polys_records, inserted_in_parts, removed_in_parts}
use Rattle.branches.specs.Area.{Stored, Held, with_open, stack, systems_records, branch_records, StorableBranch}
use Rattle.polynomials.specs.declared.Term.{Term as Packed}

-- ── a branch's record, then polynomials fs ──
abbrev pub place : ℕ → List (List Packed) → ℕ
place at xs = at + 1 + length (polys_records xs)

pub place_add : (at : ℕ) (xs ys : List (List Packed)) → place at (xs ++ ys) ≡ place at xs + length (polys_records ys)
place_add at xs ys = omega (arith, ap length (polys_records_append xs ys), length-append (polys_records xs) (polys_records ys))

pub place_one : (at : ℕ) (xs : List (List Packed)) (f : List Packed) (ys : List (List Packed))
    → place at (xs ++ (f ∷ ys)) ≡ place at xs + (length f + 1) + length (polys_records ys)
unfolding polys_records
place_one at xs f ys = omega (arith, place_add at xs (f ∷ ys), length-append (poly_records f) (polys_records ys), length_poly_records f)

-- The records v are pre, a branch's own record at `at`, the polynomials fs, free records and the rest.
pub record Lies (v pre : List Rec) (own : Rec) (fs : List (List Packed)) (free fin : List Rec) (at : ℕ) : Type 0 where
  pub starts : length pre ≡ at
  pub is : v ≡ pre ++ (own ∷ (polys_records fs ++ (free ++ fin)))

module _ {v pre : List Rec} {own : Rec} {fs : List (List Packed)} {free fin : List Rec} {at : ℕ} (L : Lies v pre own fs free fin at) where
  pub own_is : get_or v at zero_record ≡ own
  own_is = ap (λ (u : List Rec). get_or u at zero_record) L.is ∙ get_or_at pre own (polys_records fs ++ (free ++ fin)) zero_record at L.starts

  -- The records up to the polynomials behind xs.
  front : List (List Packed) → List Rec
  front xs = pre ++ (own ∷ polys_records xs)

  length_front : (xs : List (List Packed)) → length (front xs) ≡ place at xs
  unfolding front
  length_front xs = omega (arith, length-append pre (own ∷ polys_records xs), L.starts)

  split : (xs ys : List (List Packed)) → fs ≡ xs ++ ys → v ≡ front xs ++ (polys_records ys ++ (free ++ fin))
  unfolding front
  split xs ys s =
      L.is ∙ ap (λ (u : List Rec). pre ++ (own ∷ (u ++ (free ++ fin)))) (ap polys_records s ∙ polys_records_append xs ys)
      ∙ ap (λ (u : List Rec). pre ++ (own ∷ u)) (append_assoc (polys_records xs) (polys_records ys) (free ++ fin))
      ∙ sym (append_assoc pre (own ∷ polys_records xs) (polys_records ys ++ (free ++ fin)))

  split₂ : (xs gs ys : List (List Packed)) → fs ≡ xs ++ (gs ++ ys) → v ≡ front xs ++ (polys_records gs ++ (polys_records ys ++ (free ++ fin)))
  split₂ xs gs ys s =
      split xs (gs ++ ys) s
      ∙ ap (λ (u : List Rec). front xs ++ u)
      (ap (λ (u : List Rec). u ++ (free ++ fin)) (polys_records_append gs ys) ∙ append_assoc (polys_records gs) (polys_records ys) (free ++ fin))

  pub skips : (xs gs ys : List (List Packed)) → fs ≡ xs ++ (gs ++ ys) → skip_to v (place at xs) (length gs) ≡ place at xs + length (polys_records gs)
  skips xs gs ys s = skip_to_polys_records v (front xs) (place at xs) gs (polys_records ys ++ (free ++ fin)) (length_front xs) (split₂ xs gs ys s)

  pub finds : (xs gs ys : List (List Packed)) → fs ≡ xs ++ (gs ++ ys) → Each Storable gs → polys_at v (place at xs) (length gs) ≡ gs
  finds xs gs ys s h =
      polys_at_polys_records v (front xs) (place at xs) gs (polys_records ys ++ (free ++ fin)) (length_front xs) (split₂ xs gs ys s) h

  split_one : (xs : List (List Packed)) (f : List Packed) (ys : List (List Packed)) → fs ≡ xs ++ (f ∷ ys)
      → v ≡ front xs ++ (poly_records f ++ (polys_records ys ++ (free ++ fin)))
  unfolding polys_records
  split_one xs f ys s = split xs (f ∷ ys) s ∙ ap (λ (u : List Rec). front xs ++ u) (append_assoc (poly_records f) (polys_records ys) (free ++ fin))

  pub size_of : (xs : List (List Packed)) (f : List Packed) (ys : List (List Packed)) → fs ≡ xs ++ (f ∷ ys) → size_at v (place at xs) ≡ length f
  size_of xs f ys s = size_at_poly_records v (front xs) (place at xs) (length_front xs) f (polys_records ys ++ (free ++ fin)) (split_one xs f ys s)

  terms_of : (xs : List (List Packed)) (f : List Packed) (ys : List (List Packed)) → fs ≡ xs ++ (f ∷ ys) → poly_at v (place at xs) ≡ f
  terms_of xs f ys s = poly_at_poly_records v (front xs) (place at xs) (length_front xs) f (polys_records ys ++ (free ++ fin)) (split_one xs f ys s)

  -- ── f put in ──
  pub put_in : (xs ys : List (List Packed)) → fs ≡ xs ++ ys → (f : List Packed) → length f + 1 ≤ length free → (v₁ : List Rec)
      → v₁ ≡ inserted v (place at xs) (place at fs - place at xs) (poly_records f) → Lies v₁ pre own (xs ++ (f ∷ ys)) (drop (length f + 1) free) fin at
  unfolding front polys_records
  put_in xs ys s f h v₁ e =
      let m : length (polys_records ys) ≡ place at fs - place at xs = omega (arith, ap (place at) s, place_add at xs ys) in
      let shrunk : drop (length (poly_records f)) (free ++ fin) ≡ drop (length f + 1) free ++ fin =
      ap (λ (n : ℕ). drop n (free ++ fin)) (length_poly_records f) ∙ drop-append-le (length f + 1) free fin h in
      let free' : List Rec = drop (length f + 1) free ++ fin in
      record {
        starts = L.starts;
        is = e
            ∙ inserted_in_parts v (front xs) (polys_records ys) (free ++ fin) (poly_records f) (place at xs) (place at fs - place at xs) (split xs ys s)
            (length_front xs) m
            ∙ ap (λ (u : List Rec). front xs ++ (poly_records f ++ (polys_records ys ++ u))) shrunk
            ∙ append_assoc pre (own ∷ polys_records xs) (poly_records f ++ (polys_records ys ++ free'))
            ∙ ap (λ (u : List Rec). pre ++ (own ∷ u))
            (ap (λ (u : List Rec). polys_records xs ++ u) (sym (append_assoc (poly_records f) (polys_records ys) free'))
            ∙ sym (append_assoc (polys_records xs) (poly_records f ++ polys_records ys) free')
            ∙ ap (λ (u : List Rec). u ++ free') (sym (polys_records_append xs (f ∷ ys))));
      }

  -- ── f taken out ──
  -- The records from n on that are free then.
  pub freed : ℕ → List Rec
  freed n = drop n (pre ++ (own ∷ (polys_records fs ++ free)))

  length_upto : length (pre ++ (own ∷ (polys_records fs ++ free))) ≡ place at fs + length free
  length_upto = omega (arith, L.starts, length-append pre (own ∷ (polys_records fs ++ free)), length-append (polys_records fs) free)

  pub take_out : (xs : List (List Packed)) (f : List Packed) (ys : List (List Packed)) → fs ≡ xs ++ (f ∷ ys) → (v₁ : List Rec)
      → v₁ ≡ removed v (place at xs) (length f + 1) (place at fs - place at xs - (length f + 1))
      → Lies v₁ pre own (xs ++ ys) (freed (place at (xs ++ ys))) fin at
  unfolding front freed
  take_out xs f ys s v₁ gone =
      let n : ℕ = length f + 1 in
      let m : ℕ = place at fs - place at xs - n in
      let lm : length (polys_records ys) ≡ m = omega (arith, ap (place at) s, place_one at xs f ys) in
      let to : place at xs + m ≡ place at (xs ++ ys) = omega (arith, place_add at xs ys) in
      let upto : List Rec = pre ++ (own ∷ (polys_records fs ++ free)) in
      let whole : v ≡ upto ++ fin =
      L.is ∙ ap (λ (u : List Rec). pre ++ (own ∷ u)) (sym (append_assoc (polys_records fs) free fin))
      ∙ sym (append_assoc pre (own ∷ (polys_records fs ++ free)) fin) in
      let short : place at (xs ++ ys) ≤ length upto = omega (arith, length_upto, ap (place at) s, place_one at xs f ys, place_add at xs ys) in
      let left : drop (place at xs + m) v ≡ drop (place at (xs ++ ys)) upto ++ fin =
      (λ t. drop (to t) (whole t)) ∙ drop-append-le (place at (xs ++ ys)) upto fin short in
      let free' : List Rec = drop (place at (xs ++ ys)) upto ++ fin in
      record {
        starts = L.starts;
        is = gone
            ∙ removed_in_parts v (front xs) (poly_records f) (polys_records ys) (free ++ fin) (place at xs) n m (split_one xs f ys s) (length_front xs)
            (length_poly_records f) lm
            ∙ ap (λ (u : List Rec). front xs ++ (polys_records ys ++ u)) left ∙ append_assoc pre (own ∷ polys_records xs) (polys_records ys ++ free')
            ∙ ap (λ (u : List Rec). pre ++ (own ∷ u))
            (sym (append_assoc (polys_records xs) (polys_records ys) free') ∙ ap (λ (u : List Rec). u ++ free') (sym (polys_records_append xs ys)));
      }

  pub length_freed : (xs : List (List Packed)) (f : List Packed) (ys : List (List Packed)) → fs ≡ xs ++ (f ∷ ys)
      → length (freed (place at (xs ++ ys))) ≡ length free + (length f + 1)
  unfolding freed
  length_freed xs f ys s =
      let dropped = length-drop (place at (xs ++ ys)) (pre ++ (own ∷ (polys_records fs ++ free))) in
      omega (arith, length_upto, ap (place at) s, place_one at xs f ys, place_add at xs ys)

  -- ── the branch's own record written anew ──
  pub own_set : (v₁ : List Rec) (r : Rec) → v₁ ≡ set v at r → Lies v₁ pre r fs free fin at
  own_set v₁ r e =
      record { starts = L.starts; is = e ∙ ap (λ (u : List Rec). set u at r) L.is ∙ set_at pre own (polys_records fs ++ (free ++ fin)) r at L.starts }

-- ── the control record ──
module _ {v S : List Rec} {ctl own : Rec} {fs : List (List Packed)} {free fin : List Rec} {at : ℕ} (L : Lies v (ctl ∷ S) own fs free fin at) where
  pub first_is : get_or v 0 zero_record ≡ ctl
  first_is = ap (λ (u : List Rec). get_or u 0 zero_record) L.is

  pub first_set : (v₁ : List Rec) (r : Rec) → v₁ ≡ set v 0 r → Lies v₁ (r ∷ S) own fs free fin at
  first_set v₁ r e = record { starts = L.starts; is = e ∙ ap (λ (u : List Rec). set u 0 r) L.is }

-- ── the open branch ──
abbrev pub all : Stored → List (List Packed)
all b = b.P ++ (b.Q ++ b.T)

-- Where the open branch starts: behind the others. Where it ends a further one would start.
abbrev pub at_of : List Stored → ℕ
at_of bs = 1 + length (stack bs).0

abbrev pub end_of : Stored → List Stored → ℕ
end_of b bs = place (at_of bs) (all b)

abbrev pub own_of : Stored → List Stored → Rec
own_of b bs = record_of (length b.P) (length b.Q) (length b.T) (stack bs).1

abbrev pub control : Stored → List Stored → List Stored → List Rec → Rec
control b bs ss free = record_of (at_of bs) (end_of b bs) (end_of b bs + length free) (length ss)

records_of_all : (b : Stored) → polys_records (all b) ≡ polys_records b.P ++ (polys_records b.Q ++ polys_records b.T)
records_of_all b = polys_records_append b.P (b.Q ++ b.T) ∙ ap (λ (u : List Rec). polys_records b.P ++ u) (polys_records_append b.Q b.T)

pub end_is : (b : Stored) (bs : List Stored) → 1 + length (stack (b ∷ bs)).0 ≡ end_of b bs
end_is b bs = omega (arith, length-append (stack bs).0 (branch_records (stack bs).1 b), ap length (records_of_all b))

-- The records of a state with an open branch, as `Held` and as `Lies` have them.
same_records : (b : Stored) (bs ss : List Stored) (free fin : List Rec)
    → record_of (at_of bs) (1 + length (stack (b ∷ bs)).0) (1 + length (stack (b ∷ bs)).0 + length free) (length ss) ∷ ((stack (b ∷ bs)).0 ++ (free ++ fin))
    ≡ (control b bs ss free ∷ (stack bs).0) ++ (own_of b bs ∷ (polys_records (all b) ++ (free ++ fin)))
same_records b bs ss free fin =
    ap₂ (λ (n : ℕ) (u : List Rec). record_of (at_of bs) n (n + length free) (length ss) ∷ u) (end_is b bs)
    (append_assoc (stack bs).0 (branch_records (stack bs).1 b) (free ++ fin)
    ∙ ap (λ (u : List Rec). (stack bs).0 ++ (own_of b bs ∷ (u ++ (free ++ fin)))) (sym (records_of_all b)))

module _ {v : List Rec} {most : ℕ} {b : Stored} {bs ss : List Stored} (H : Held v most (with_open b bs ss)) where
  pub lies : Lies v (control b bs ss H.free ∷ (stack bs).0) (own_of b bs) (all b) H.free (systems_records ss ++ H.beyond) (at_of bs)
  lies = record { starts = omega arith; is = H.is ∙ same_records b bs ss H.free (systems_records ss ++ H.beyond) }

  pub room_is : end_of b bs + length H.free + length (systems_records ss) ≡ most
  room_is = omega (arith, H.fits, end_is b bs)

  -- They are records of the list.
  pub most_inside : most ≤ length v
  most_inside =
      omega (
        arith,
        H.fits,
        ap length H.is,
        length-append (stack (b ∷ bs)).0 (H.free ++ (systems_records ss ++ H.beyond)),
        length-append H.free (systems_records ss ++ H.beyond),
        length-append (systems_records ss) H.beyond,
      )

  -- The state with another open branch, from its records.
  pub held_again : (v₁ : List Rec) (b₁ : Stored) (free : List Rec)
      → Lies v₁ (control b₁ bs ss free ∷ (stack bs).0) (own_of b₁ bs) (all b₁) free (systems_records ss ++ H.beyond) (at_of bs)
      → end_of b₁ bs + length free ≡ end_of b bs + length H.free → StorableBranch b₁
      → Held v₁ most (with_open b₁ bs ss)
  held_again v₁ b₁ free L ends h =
      record {
        free = free;
        beyond = H.beyond;
        is = L.is ∙ sym (same_records b₁ bs ss free (systems_records ss ++ H.beyond));
        fits = omega (arith, H.fits, end_is b bs, end_is b₁ bs);
        few = H.few;
        storable = ((h, H.storable.0.1), H.storable.1);
      }

-- ── its polynomials, parted ──
-- All polynomials, parted in P or in Q.
pub parted_p : (b : Stored) (k : ℕ) → all b ≡ take k b.P ++ (drop k b.P ++ (b.Q ++ b.T))
parted_p b k = ap (λ (l : List (List Packed)). l ++ (b.Q ++ b.T)) (sym (take-append-drop k b.P)) ∙ append_assoc (take k b.P) (drop k b.P) (b.Q ++ b.T)

pub parted_q_behind : (b : Stored) (k : ℕ) → all b ≡ b.P ++ (take k b.Q ++ (drop k b.Q ++ b.T))
parted_q_behind b k =
    ap (λ (l : List (List Packed)). b.P ++ l)
    (ap (λ (l : List (List Packed)). l ++ b.T) (sym (take-append-drop k b.Q)) ∙ append_assoc (take k b.Q) (drop k b.Q) b.T)

pub parted_q : (b : Stored) (k : ℕ) → all b ≡ b.P ++ take k b.Q ++ (drop k b.Q ++ b.T)
parted_q b k = parted_q_behind b k ∙ sym (append_assoc b.P (take k b.Q) (drop k b.Q ++ b.T))

-- The same about its member at place i.
pub parted_at_p : (b : Stored) (i : ℕ) → i < length b.P → all b ≡ take i b.P ++ (get_or b.P i [] ∷ (drop (suc i) b.P ++ (b.Q ++ b.T)))
parted_at_p b i h =
    ap (λ (l : List (List Packed)). l ++ (b.Q ++ b.T)) (split_at b.P i [] h)
    ∙ append_assoc (take i b.P) (get_or b.P i [] ∷ drop (suc i) b.P) (b.Q ++ b.T)

pub parted_at_q : (b : Stored) (i : ℕ) → i < length b.Q → all b ≡ b.P ++ take i b.Q ++ (get_or b.Q i [] ∷ (drop (suc i) b.Q ++ b.T))
parted_at_q b i h =
    ap (λ (l : List (List Packed)). b.P ++ (l ++ b.T)) (split_at b.Q i [] h)
    ∙ ap (λ (l : List (List Packed)). b.P ++ l) (append_assoc (take i b.Q) (get_or b.Q i [] ∷ drop (suc i) b.Q) b.T)
    ∙ sym (append_assoc b.P (take i b.Q) (get_or b.Q i [] ∷ (drop (suc i) b.Q ++ b.T)))

-- The polynomial f is at record r.
pub record Found (v : List Rec) (most r : ℕ) (f : List Packed) : Type 0 where
  pub inside : r + 1 + size_at v r ≤ most
  pub size : size_at v r ≡ length f
  pub few : length f ≤ 256
  pub terms : poly_at v r ≡ f

module _ {v : List Rec} {most : ℕ} {b : Stored} {bs ss : List Stored} (H : Held v most (with_open b bs ss)) where
  pub found : (xs : List (List Packed)) (f : List Packed) (ys : List (List Packed)) → all b ≡ xs ++ (f ∷ ys) → Storable f
      → (r : ℕ) → r ≡ place (at_of bs) xs → Found v most r f
  found xs f ys s h r e =
      let size : size_at v r ≡ length f = ap (size_at v) e ∙ size_of (lies H) xs f ys s in
      record {
        inside = omega (arith, ap (place (at_of bs)) s, place_one (at_of bs) xs f ys, room_is H);
        size = size;
        few = h.few;
        terms = ap (poly_at v) e ∙ terms_of (lies H) xs f ys s;
      }

  within : (xs ys : List (List Packed)) → all b ≡ xs ++ ys → (place (at_of bs) xs ≤ end_of b bs) × (end_of b bs ≤ most)
  within xs ys s = (omega (arith, ap (place (at_of bs)) s, place_add (at_of bs) xs ys), omega (arith, room_is H))

  pub place_inside : (xs ys : List (List Packed)) → all b ≡ xs ++ ys → {n : ℕ} → n ≡ place (at_of bs) xs → n ≤ most
  place_inside xs ys s e = let h = within xs ys s in omega arith

  -- Where the branch starts, as the control record says.
  module _ (a : ℕ) (e : a ≡ (get_or v 0 zero_record).w0) where
    pub at_is : a ≡ at_of bs
    at_is = e ∙ ap (λ (r : Rec). r.w0) (first_is (lies H))

    pub own_read : get_or v a zero_record ≡ own_of b bs
    own_read = ap (λ (n : ℕ). get_or v n zero_record) at_is ∙ own_is (lies H)

    pub at_inside : a < most
    at_inside = omega (arith, at_is, room_is H)
