-- Polynomials stored as consecutive records: a head, then a record for each term. A polynomial is a list of packed terms here, as working
-- polynomials are.
use Rattle.std.specs.Prelude.{◌≡◌, refl, Bool, true, false, ◌&&◌, ◌||◌, List, [], ◌∷◌, ◌++◌, map, ℕ, zero, suc, ◌+◌, ◌*◌, ◌/◌, ◌%◌, ◌≤◌, ◌<◌, eqb, length, get_or, take, drop}
use Rattle.residues.specs.Each.{Each}
use Rattle.polynomials.specs.declared.Term.{Term as Packed}
use Rattle.records.specs.Records.{Rec, record_of, zero_record}

-- ── encoding ──
-- The head of a polynomial of n terms.
abbrev pub head : ℕ → Rec
head n = record_of n 0 0 0

-- A term: its coefficient, and its exponents as a table's two words.
abbrev pub term_record : Packed → Rec
term_record t = record_of t.coefficient (t.monomial / 4294967296) (t.monomial % 4294967296) 0

abbrev pub poly_records : List Packed → List Rec
poly_records s = head (length s) ∷ map term_record s

unfoldable pub polys_records : List (List Packed) → List Rec
polys_records [] = []
polys_records (s ∷ ss) = poly_records s ++ polys_records ss

-- ── decoding, by position ──
-- The number of terms that the head at i states.
abbrev pub size_at : List Rec → ℕ → ℕ
size_at v i = (get_or v i zero_record).w0

-- The term in a record.
abbrev pub term_of : Rec → Packed
term_of r = record { coefficient = r.w0; monomial = r.w1 * 4294967296 + r.w2 }

-- The polynomial with its head at i.
unfoldable pub poly_at : List Rec → ℕ → List Packed
poly_at v i = map term_of (take (size_at v i) (drop (i + 1) v))

-- Where the k polynomials from i on end.
abbrev pub skip_to : List Rec → ℕ → ℕ → ℕ
skip_to v i zero = i
skip_to v i (suc k) = skip_to v (i + 1 + size_at v i) k

-- The k polynomials from i on.
abbrev pub polys_at : List Rec → ℕ → ℕ → List (List Packed)
polys_at v i zero = []
polys_at v i (suc k) = poly_at v i ∷ polys_at v (i + 1 + size_at v i) k

-- ── equality ──
unfoldable pub same : List Packed → List Packed → Bool
same [] [] = true
same [] (u ∷ t) = false
same (x ∷ s) [] = false
same (x ∷ s) (u ∷ t) = eqb x.coefficient u.coefficient && (eqb x.monomial u.monomial && same s t)

unfoldable pub member : List Packed → List (List Packed) → Bool
member f [] = false
member f (g ∷ gs) = same g f || member f gs

-- ── writing ──
-- b put in at i, with the m records there moved up behind it.
abbrev pub inserted : List Rec → ℕ → ℕ → List Rec → List Rec
inserted v i m b = take i v ++ (b ++ (take m (drop i v) ++ drop (i + (length b + m)) v))

-- The n records at i taken out, with the m records behind them moved down; what stood in the places that become free is left there.
abbrev pub removed : List Rec → ℕ → ℕ → ℕ → List Rec
removed v i n m = take i v ++ (take m (drop (i + n) v) ++ drop (i + m) v)

-- A working polynomial that records can hold: at most 256 terms, coefficients that fit a word.
pub record Storable (s : List Packed) : Type 0 where
  pub few : length s ≤ 256
  pub coefficients : Each (λ t. t.coefficient < 4294967296) s

-- ── examples ──
-- Two terms, of coefficients 5 and 1, behind a record that is not theirs.
abbrev packed : ℕ → ℕ → Packed
packed c m = record { coefficient = c; monomial = m }

two_terms : List Rec
two_terms = zero_record ∷ poly_records (packed 5 4294967298 ∷ packed 1 0 ∷ [])

two_terms_are : two_terms ≡ zero_record ∷ (record_of 2 0 0 0 ∷ (record_of 5 1 2 0 ∷ (record_of 1 0 0 0 ∷ [])))
unfolding two_terms
two_terms_are = refl

two_terms_read : poly_at two_terms 1 ≡ packed 5 4294967298 ∷ packed 1 0 ∷ []
unfolding two_terms poly_at
two_terms_read = refl
