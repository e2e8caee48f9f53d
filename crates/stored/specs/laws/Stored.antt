-- Where the records are known in parts, the decoders by position find the polynomials that were encoded, and `inserted`, `removed` and `moved` are
-- known in parts too. The test `same` decides equality.
use Rattle.std.specs.Prelude.{◌≡◌, refl, true, ◌&&◌, map, ℕ, ◌+◌, ◌≤◌, eqb, length, take}
use Rattle.std.proofs.Math.Path.{sym, ap}
use Rattle.std.proofs.Common.{ap₂, ◌∙◌, div-add-mod', arith, eqb-true, eq-eqb, length-drop, length-take-le, take_at}
use Rattle.std.proofs.Math.Bool.{and-eq-true_iff}
use mathlib.Core.List.{List, [], ◌∷◌, ◌++◌, append_assoc, append-nil}
use Rattle.std.proofs.Math.ListN.{drop, length-append}
use Rattle.std.proofs.Math.Seq.{drop_at, drop-append-add}
use Rattle.std.proofs.lemmas.List.{get_or_at, length-map}
use Rattle.polynomials.specs.declared.Term.{Term as Packed}
use Rattle.residues.specs.Each.{Each}
use Rattle.records.specs.Records.{Rec, zero_record}
use Rattle.stored.specs.Stored.{head, term_record, term_of, poly_records, polys_records, size_at, poly_at, skip_to, polys_at, same, inserted, removed, Storable}

-- ── encoding ──
pub length_poly_records : (s : List Packed) → length (poly_records s) ≡ length s + 1
length_poly_records s = omega (arith, length-map s term_record)

pub polys_records_append : (ss ts : List (List Packed)) → polys_records (ss ++ ts) ≡ polys_records ss ++ polys_records ts
unfolding polys_records
polys_records_append [] ts = refl
polys_records_append (s ∷ ss) ts =
    ap (λ (l : List Rec). poly_records s ++ l) (polys_records_append ss ts) ∙ sym (append_assoc (poly_records s) (polys_records ss) (polys_records ts))

polys_records_one : (s : List Packed) → polys_records (s ∷ []) ≡ poly_records s
unfolding polys_records
polys_records_one s = append-nil (poly_records s)

pub polys_records_snoc : (ss : List (List Packed)) (s : List Packed) → polys_records (ss ++ (s ∷ [])) ≡ polys_records ss ++ poly_records s
polys_records_snoc ss s = polys_records_append ss (s ∷ []) ∙ ap (λ (l : List Rec). polys_records ss ++ l) (polys_records_one s)

-- A polynomial takes a record or more.
pub length_le_polys_records : (ss : List (List Packed)) → length ss ≤ length (polys_records ss)
unfolding polys_records
length_le_polys_records [] = omega arith
length_le_polys_records (s ∷ ss) = omega (arith, length-append (poly_records s) (polys_records ss), length_poly_records s, length_le_polys_records ss)

-- ── decoding ──
terms_of_records : (s : List Packed) → map term_of (map term_record s) ≡ s
terms_of_records [] = refl
terms_of_records (t ∷ s) =
    ap₂ (λ (m : ℕ) (l : List Packed). record { coefficient = t.coefficient; monomial = m } ∷ l) (div-add-mod' t.monomial 4294967296) (terms_of_records s)

pub length_poly_at : (v : List Rec) (i : ℕ) → i + 1 + size_at v i ≤ length v → length (poly_at v i) ≡ size_at v i
unfolding poly_at
length_poly_at v i h =
    length-map (take (size_at v i) (drop (i + 1) v)) term_of ∙ length-take-le (size_at v i) (drop (i + 1) v) (simp length-drop (omega arith))

module _ (v pre : List Rec) (i : ℕ) (at : length pre ≡ i) (s : List Packed) (post : List Rec) (e : v ≡ pre ++ (poly_records s ++ post)) where
  pub size_at_poly_records : size_at v i ≡ length s
  size_at_poly_records =
      ap (λ (u : List Rec). size_at u i) e ∙ ap (λ (r : Rec). r.w0) (get_or_at pre (head (length s)) (map term_record s ++ post) zero_record i at)

  pub poly_at_poly_records : poly_at v i ≡ s
  unfolding poly_at
  poly_at_poly_records =
      let first : List Rec = head (length s) ∷ [] in
      let body : drop (i + 1) v ≡ map term_record s ++ post =
      ap (drop (i + 1)) (e ∙ sym (append_assoc pre first (map term_record s ++ post)))
      ∙ drop_at (pre ++ first) (map term_record s ++ post) (i + 1) (omega (arith, length-append pre first)) in
      (λ t. map term_of (take (size_at_poly_records t) (body t)))
      ∙ ap (map term_of) (take_at (map term_record s) post (length s) (length-map s term_record)) ∙ terms_of_records s

  -- Behind it.
  length_to_next : length (pre ++ poly_records s) ≡ i + 1 + size_at v i
  length_to_next = omega (arith, length-append pre (poly_records s), length_poly_records s, size_at_poly_records)

-- The records of the first of several polynomials, and of the others behind it.
first_in_parts : (v pre : List Rec) (s : List Packed) (ss : List (List Packed)) (post : List Rec) → v ≡ pre ++ (polys_records (s ∷ ss) ++ post)
    → v ≡ pre ++ (poly_records s ++ (polys_records ss ++ post))
unfolding polys_records
first_in_parts v pre s ss post e = e ∙ ap (λ (u : List Rec). pre ++ u) (append_assoc (poly_records s) (polys_records ss) post)

pub skip_to_polys_records : (v pre : List Rec) (i : ℕ) (ss : List (List Packed)) (post : List Rec) → length pre ≡ i → v ≡ pre ++ (polys_records ss ++ post)
    → skip_to v i (length ss) ≡ i + length (polys_records ss)
unfolding polys_records
skip_to_polys_records v pre i [] post at e = omega arith
skip_to_polys_records v pre i (s ∷ ss) post at e =
    let e₁ : v ≡ pre ++ (poly_records s ++ (polys_records ss ++ post)) = first_in_parts v pre s ss post e in
    let e₂ : v ≡ pre ++ poly_records s ++ (polys_records ss ++ post) = e₁ ∙ sym (append_assoc pre (poly_records s) (polys_records ss ++ post)) in
    skip_to_polys_records v (pre ++ poly_records s) (i + 1 + size_at v i) ss post (length_to_next v pre i at s (polys_records ss ++ post) e₁) e₂
    ∙ omega (arith, size_at_poly_records v pre i at s (polys_records ss ++ post) e₁, length-append (poly_records s) (polys_records ss), length_poly_records s)

pub polys_at_polys_records : (v pre : List Rec) (i : ℕ) (ss : List (List Packed)) (post : List Rec) → length pre ≡ i → v ≡ pre ++ (polys_records ss ++ post)
    → Each Storable ss → polys_at v i (length ss) ≡ ss
polys_at_polys_records v pre i [] post at e h = refl
polys_at_polys_records v pre i (s ∷ ss) post at e h =
    let e₁ : v ≡ pre ++ (poly_records s ++ (polys_records ss ++ post)) = first_in_parts v pre s ss post e in
    let e₂ : v ≡ pre ++ poly_records s ++ (polys_records ss ++ post) = e₁ ∙ sym (append_assoc pre (poly_records s) (polys_records ss ++ post)) in
    ap₂ ◌∷◌ (poly_at_poly_records v pre i at s (polys_records ss ++ post) e₁)
    (polys_at_polys_records v (pre ++ poly_records s) (i + 1 + size_at v i) ss post (length_to_next v pre i at s (polys_records ss ++ post) e₁) e₂ h.1)

-- ── writing ──
pub inserted_in_parts : (v pre mid free b : List Rec) (i m : ℕ) → v ≡ pre ++ (mid ++ free) → length pre ≡ i → length mid ≡ m
    → inserted v i m b ≡ pre ++ (b ++ (mid ++ drop (length b) free))
inserted_in_parts v pre mid free b i m e at k =
    let whole : length (pre ++ mid) ≡ i + m = omega (arith, length-append pre mid) in
    let to : i + (length b + m) ≡ length (pre ++ mid) + length b = omega arith in
    let rest : drop (i + (length b + m)) v ≡ drop (length b) free =
    (λ t. drop (to t) ((e ∙ sym (append_assoc pre mid free)) t)) ∙ drop-append-add (pre ++ mid) free (length b) in
    let here : take m (drop i v) ≡ mid = ap (take m) (ap (drop i) e ∙ drop_at pre (mid ++ free) i at) ∙ take_at mid free m k in
    λ t. (ap (take i) e ∙ take_at pre (mid ++ free) i at) t ++ (b ++ (here t ++ rest t))

-- What stands behind the records moved down is left as it was.
pub removed_in_parts : (v pre out mid free : List Rec) (i n m : ℕ) → v ≡ pre ++ (out ++ (mid ++ free)) → length pre ≡ i → length out ≡ n → length mid ≡ m
    → removed v i n m ≡ pre ++ (mid ++ drop (i + m) v)
removed_in_parts v pre out mid free i n m e at lo lm =
    let there : drop (i + n) v ≡ mid ++ free =
    ap (drop (i + n)) (e ∙ sym (append_assoc pre out (mid ++ free))) ∙ drop_at (pre ++ out) (mid ++ free) (i + n) (omega (arith, length-append pre out)) in
    λ t. (ap (take i) e ∙ take_at pre (out ++ (mid ++ free)) i at) t ++ ((ap (take m) there ∙ take_at mid free m lm) t ++ drop (i + m) v)

-- ── equality ──
pub equal_of_same : (s t : List Packed) → same s t ≡ true → s ≡ t
unfolding same
equal_of_same [] [] h = refl
equal_of_same [] (u ∷ t) h = cc
equal_of_same (x ∷ s) [] h = cc
equal_of_same (x ∷ s) (u ∷ t) h =
    let parts = (and-eq-true_iff (eqb x.coefficient u.coefficient) (eqb x.monomial u.monomial && same s t)).0 h in
    let behind = (and-eq-true_iff (eqb x.monomial u.monomial) (same s t)).0 parts.1 in
    let c : x.coefficient ≡ u.coefficient = eqb-true x.coefficient u.coefficient parts.0 in
    let m : x.monomial ≡ u.monomial = eqb-true x.monomial u.monomial behind.0 in
    ap₂ ◌∷◌ (λ i. record { coefficient = c i; monomial = m i }) (equal_of_same s t behind.1)

same_refl : (s : List Packed) → same s s ≡ true
unfolding same
same_refl [] = refl
same_refl (x ∷ s) =
    ap₂ ◌&&◌ (eq-eqb x.coefficient x.coefficient refl) (ap₂ ◌&&◌ (eq-eqb x.monomial x.monomial refl) (same_refl s))

pub same_of_equal : (s t : List Packed) → s ≡ t → same s t ≡ true
same_of_equal s t e = ap (same s) (sym e) ∙ same_refl s
