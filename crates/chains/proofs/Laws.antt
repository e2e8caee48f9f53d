-- What a turn of each loop over terms and heads writes: the rest of the words from here, written, is the whole.
use mathlib.Core.Path.{◌≡◌, refl, sym, ap, ◌∙◌}
use mathlib.Core.List.{List, [], ◌∷◌, ◌++◌, map}
use Prim.Native.Nat.{ℕ, zero, suc, ◌+◌, ◌-◌, ◌*◌, ◌≤◌, ◌<◌}
use mathlib.Core.Logic.{◌≢◌}
use native.Mathlib.Omega.{arith}
use lib.ListN.{length, take, drop, get_or, length-drop}
use Rattle.std.proofs.Common.{Fits, w32}
use Rattle.std.proofs.lemmas.List.{length-map}
use Rattle.std.proofs.lemmas.List.Edits.{length-paste}
use lib.Seq.{paste, drop-cons, length-take-le, take_at, drop_at}
use Rattle.polynomials.specs.Poly.{Poly}
use Rattle.polynomials.specs.Packed.{bytes, word, exponents, term, terms}
use Rattle.polynomials.specs.laws.Packed.{word_bytes, length_bytes, bytes_words}
use Rattle.rules.specs.Room.{polynomials_size}
use Rattle.rules.specs.Written.{index_of, terms_words, heads_words}
use Rattle.rules.proofs.laws.Lengths.{length_terms, length_heads}
use Rattle.records.specs.Records.{Rec, zero_record, view}
use Rattle.records.proofs.Rows.{length_view, word_0, word_1, word_2}
use Rattle.polynomials.specs.laws.Terms.{length_terms as length_packed}
use Rattle.polynomials.specs.declared.Term.{Term as Packed}
use Rattle.stored.specs.Stored.{size_at, term_of, poly_at, skip_to, polys_at}
use Rattle.stored.proofs.Laws.{size_in, skip_le, skip_in, skip_on, polys_on}
use Rattle.stored.specs.laws.Stored.{length_poly_at}
use Rattle.chains.proofs.Over.{over, over_nil, paste_over, over_behind, record_behind, record_word}

-- A monomial's two words.
high_word : (hi lo : ℕ) → hi < 4294967296 → lo < 4294967296 → word (drop 4 (bytes 8 (hi * 4294967296 + lo))) ≡ hi
unfolding exponents
high_word hi lo h l =
    ap (λ (e : List ℕ). word (drop 4 e)) (bytes_words hi lo l)
    ∙ ap word (drop_at (bytes 4 lo) (bytes 4 hi) 4 (length_bytes 4 lo)) ∙ word_bytes 4 hi h

low_word : (hi lo : ℕ) → lo < 4294967296 → word (take 4 (bytes 8 (hi * 4294967296 + lo))) ≡ lo
unfolding exponents
low_word hi lo l =
    ap (λ (e : List ℕ). word (take 4 e)) (bytes_words hi lo l)
    ∙ ap word (take_at (bytes 4 lo) (bytes 4 hi) 4 (length_bytes 4 lo)) ∙ word_bytes 4 lo l

pub index_is : {A : Type 0} (l : List A) (i k : ℕ) → (0 < length l → k ≡ i) → (length l ≡ 0 → k ≡ 0) → k ≡ index_of l i
index_is [] i k some none = none refl
index_is (x ∷ l) i k some none = some (omega arith)

-- ── terms ──
-- The terms in the m records from j on.
unfoldable pub terms_in : List Rec → ℕ → ℕ → Poly
terms_in v j m = terms (map term_of (take m (drop j v)))

terms_in_turn : (v : List Rec) (j m j' m' : ℕ) → m ≡ suc m' → suc j ≡ j' → j + m ≤ length v
    → terms_in v j m ≡ term (term_of (get_or v j zero_record)) ∷ terms_in v j' m'
unfolding terms terms_in
terms_in_turn v j m j' m' em ej h =
    (λ t. terms (map term_of (take (em t) (drop-cons v j zero_record (omega arith) t))))
    ∙ ap (λ (k : ℕ). term (term_of (get_or v j zero_record)) ∷ terms_in v k m') ej

length_terms_in : (v : List Rec) (j m : ℕ) → j + m ≤ length v → length (terms_in v j m) ≡ m
unfolding terms_in
length_terms_in v j m h =
    length_packed (map term_of (take m (drop j v))) ∙ length-map (take m (drop j v)) term_of
    ∙ length-take-le m (drop j v) (simp length-drop (omega arith))

-- A polynomial's terms are those in the records behind its head.
pub terms_poly : (v : List Rec) (i : ℕ) → terms (poly_at v i) ≡ terms_in v (i + 1) (size_at v i)
unfolding poly_at terms_in
terms_poly v i = refl

-- A turn: the first of the m terms from record j on is written to record p, and the rest comes behind it.
module _ (w : List (List ℕ)) (out out' : List ℕ) (p j m next : ℕ) (some : 0 < m) (inside : j + m ≤ length w) (room : 4 * (p + m) ≤ length out)
    (is : out' ≡ paste out (4 * p) (get_or (get_or w j []) 0 0 ∷ get_or (get_or w j []) 1 0 ∷ get_or (get_or w j []) 2 0 ∷ next ∷ []) 4)
    (fits : (k : ℕ) → Fits w32 (get_or out' k 0)) (more : 1 < m → next ≡ p + 1) (last : m ≤ 1 → next ≡ 0) where
  abbrev c : ℕ
  c = get_or (get_or w j []) 0 0

  abbrev hi : ℕ
  hi = get_or (get_or w j []) 1 0

  abbrev lo : ℕ
  lo = get_or (get_or w j []) 2 0

  high : hi < 4294967296
  high = omega (arith, fits (4 * p + 1), ap (λ (l : List ℕ). get_or l (4 * p + 1) 0) is, record_word out (4 * p) c hi lo next 1 (omega arith))

  low : lo < 4294967296
  low = omega (arith, fits (4 * p + 2), ap (λ (l : List ℕ). get_or l (4 * p + 2) 0) is, record_word out (4 * p) c hi lo next 2 (omega arith))

  pub terms_on : over out' (4 * (p + 1)) (terms_words (p + 1) (terms_in (view w) (j + 1) (m - 1))) ≡ over out (4 * p) (terms_words p (terms_in (view w) j m))
  unfolding terms_words
  terms_on =
      let v : List Rec = view w in
      let r : Rec = get_or v j zero_record in
      let f' : Poly = terms_in v (j + 1) (m - 1) in
      let l' : length f' ≡ m - 1 = length_terms_in v (j + 1) (m - 1) (omega (arith, length_view w)) in
      let sp : p + 1 ≡ suc p = omega arith in
      let link : next ≡ index_of f' (suc p) = index_is f' (suc p) next (λ h. omega (arith, more (omega arith))) (λ h. last (omega arith)) in
      let hi_is : hi ≡ word (drop 4 (bytes 8 (r.w1 * 4294967296 + r.w2))) =
      sym (high_word hi lo high low) ∙ (λ t. word (drop 4 (bytes 8 (word_1 w j t * 4294967296 + word_2 w j t)))) in
      let lo_is : lo ≡ word (take 4 (bytes 8 (r.w1 * 4294967296 + r.w2))) =
      sym (low_word hi lo low) ∙ (λ t. word (take 4 (bytes 8 (word_1 w j t * 4294967296 + word_2 w j t)))) in
      ap (λ (l : List ℕ). over l (4 * (p + 1)) (terms_words (p + 1) f')) is
      ∙ record_behind out p (p + 1) c hi lo next (terms_words (p + 1) f') refl (omega arith)
      ∙ (λ t. over out (4 * p) (word_0 w j t ∷ hi_is t ∷ lo_is t ∷ link t ∷ terms_words (sp t) f'))
      ∙ ap (λ (f : Poly). over out (4 * p) (terms_words p f)) (sym (terms_in_turn v j m (j + 1) (m - 1) (omega arith) (omega arith) (omega (arith, length_view w))))

pub terms_end : (v : List Rec) (out : List ℕ) (p q j m : ℕ) → m ≡ 0 → over out p (terms_words q (terms_in v j m)) ≡ out
unfolding terms_words terms terms_in
terms_end v out p q j m e = ap (λ (k : ℕ). over out p (terms_words q (terms_in v j k))) e ∙ over_nil out p

-- The terms of a polynomial, written as one block.
pub terms_over : (v : List Rec) (out : List ℕ) (at p i : ℕ) → i + 1 + size_at v i ≤ length v
    → paste out at (terms_words p (terms (poly_at v i))) (4 * size_at v i) ≡ over out at (terms_words p (terms (poly_at v i)))
terms_over v out at p i inside =
    paste_over out at (terms_words p (terms (poly_at v i))) (4 * size_at v i)
    (omega (arith, length_terms p (terms (poly_at v i)), length_packed (poly_at v i), length_poly_at v i inside))

-- ── heads ──
length_polys_at : (v : List Rec) (i k : ℕ) → length (map terms (polys_at v i k)) ≡ k
length_polys_at v i zero = refl
length_polys_at v i (suc k) = ap suc (length_polys_at v (i + 1 + size_at v i) k)

-- Polynomials take as many records in a list as in the work area.
size_polys_at : (v : List Rec) (i k : ℕ) → skip_to v i k ≤ length v → i + polynomials_size (map terms (polys_at v i k)) ≡ skip_to v i k
unfolding polynomials_size
size_polys_at v i zero h = omega arith
size_polys_at v i (suc k) h =
    let j : ℕ = i + 1 + size_at v i in
    omega (arith, size_polys_at v j k h, length_packed (poly_at v i), length_poly_at v i (omega (arith, skip_le v j k)))

-- A turn: the polynomial at record i, the next of k after j, is written, and what is left comes behind it.
module _ (w : List (List ℕ)) (out : List ℕ) (at i k j first next : ℕ) (some : j < k) (inside : i + 1 + size_at (view w) i ≤ length w)
    (fits : 4 * (at + 1 + size_at (view w) i) ≤ length out)
    (empty : get_or (get_or w i []) 0 0 ≡ 0 → first ≡ 0) (full : get_or (get_or w i []) 0 0 ≢ 0 → first ≡ at + 1)
    (last : j + 1 ≡ k → next ≡ 0) (more : j + 1 ≢ k → next ≡ at + 1 + get_or (get_or w i []) 0 0) where
  pub heads_on : over out (4 * at) (heads_words at (map terms (polys_at (view w) i (k - j))))
      ≡ over (paste (paste out (4 * at) (first ∷ 0 ∷ 0 ∷ next ∷ []) 4) (4 * (at + 1)) (terms_words (at + 1) (terms (poly_at (view w) i))) (4 * size_at (view w) i))
      (4 * (at + (1 + get_or (get_or w i []) 0 0)))
      (heads_words (at + (1 + get_or (get_or w i []) 0 0)) (map terms (polys_at (view w) (i + (1 + get_or (get_or w i []) 0 0)) (k - (j + 1)))))
  unfolding heads_words
  heads_on =
      let v : List Rec = view w in
      let n : ℕ = get_or (get_or w i []) 0 0 in
      let p' : ℕ = at + (1 + n) in
      let f : Poly = terms (poly_at v i) in
      let fs : List Poly = map terms (polys_at v (i + (1 + n)) (k - (j + 1))) in
      let mid : List ℕ = paste out (4 * at) (first ∷ 0 ∷ 0 ∷ next ∷ []) 4 in
      let same : length mid ≡ length out = length-paste out (4 * at) (first ∷ 0 ∷ 0 ∷ next ∷ []) 4 (omega arith) (omega arith) in
      let lf : length f ≡ n = omega (arith, length_packed (poly_at v i), length_poly_at v i (omega (arith, length_view w)), size_in w i) in
      let lt : length (terms_words (at + 1) f) ≡ 4 * size_at v i = omega (arith, length_terms (at + 1) f, size_in w i) in
      let lfs : length fs ≡ k - (j + 1) = length_polys_at v (i + (1 + n)) (k - (j + 1)) in
      let sp : at + 1 ≡ suc at = omega arith in
      let sp' : p' ≡ suc (at + length f) = omega arith in
      let head : first ≡ index_of f (suc at) = index_is f (suc at) first (λ h. omega (arith, full (omega arith))) (λ h. empty (omega arith)) in
      let link : next ≡ index_of fs (suc (at + length f)) =
      index_is fs (suc (at + length f)) next (λ h. omega (arith, more (omega arith))) (λ h. last (omega arith)) in
      ap (λ (l : List (List Packed)). over out (4 * at) (heads_words at (map terms l))) (polys_on w i k j some)
      ∙ sym (λ t. over out (4 * at) (head t ∷ 0 ∷ 0 ∷ link t ∷ (terms_words (sp t) f ++ heads_words (sp' t) fs)))
      ∙ sym (record_behind out at (at + 1) first 0 0 next (terms_words (at + 1) f ++ heads_words p' fs) refl (omega arith))
      ∙ sym (over_behind mid (4 * (at + 1)) (terms_words (at + 1) f) (4 * p') (heads_words p' fs) (omega (arith, size_in w i)) (omega (arith, size_in w i)))
      ∙ sym (ap (λ (l : List ℕ). over l (4 * p') (heads_words p' fs)) (paste_over mid (4 * (at + 1)) (terms_words (at + 1) f) (4 * size_at v i) lt))

pub heads_end : (v : List Rec) (out : List ℕ) (at p i k : ℕ) → k ≡ 0 → over out at (heads_words p (map terms (polys_at v i k))) ≡ out
unfolding heads_words
heads_end v out at p i k e = ap (λ (n : ℕ). over out at (heads_words p (map terms (polys_at v i n)))) e ∙ over_nil out at

-- The heads of all, written as one block.
pub heads_all : (v : List Rec) (out : List ℕ) (at p i k : ℕ) → skip_to v i k ≤ length v
    → paste out at (heads_words p (map terms (polys_at v i k))) (4 * (skip_to v i k - i)) ≡ over out at (heads_words p (map terms (polys_at v i k)))
heads_all v out at p i k inside =
    paste_over out at (heads_words p (map terms (polys_at v i k))) (4 * (skip_to v i k - i))
    (omega (arith, length_heads p (map terms (polys_at v i k)), size_polys_at v i k inside))

-- ── what each function's proof takes ──
pub ruleset rows = (length_view, size_in, terms_poly, terms_end, terms_over)

pub ruleset chain = (length_view, size_in, skip_le, skip_in, skip_on, heads_on, heads_end, heads_all)
