-- What a turn of each loop does to the lists.
use mathlib.Core.Path.{◌≡◌, refl, sym, ap, ◌∙◌}
use mathlib.Core.List.{List, [], ◌∷◌, ◌++◌}
use Prim.Native.Nat.{ℕ, zero, suc, ◌+◌, ◌-◌, ◌≤◌, ◌<◌}
use native.Mathlib.Nat.{not-suc-le-zero}
use native.Mathlib.Omega.{arith}
use lib.ListN.{length, take, drop, get_or, length-drop}
use lib.Seq.{take-suc, get_or-drop}
use Rattle.std.proofs.Common.{map, add-one}
use Rattle.std.proofs.lemmas.List.{map-append}
use Rattle.records.specs.Records.{Rec, zero_record, view}
use Rattle.records.proofs.Rows.{word_0}
use Rattle.stored.specs.Stored.{term_of, size_at, poly_at, skip_to, polys_at}

-- What a read of a head's first word gives.
pub size_in : (w : List (List ℕ)) (i : ℕ) → size_at (view w) i ≡ get_or (get_or w i []) 0 0
size_in w i = sym (word_0 w i)

-- ── loading ──
-- The term of one record more.
pub poly_more : (v : List Rec) (k i : ℕ) → k + i < length v
    → map term_of (take (i + 1) (drop k v)) ≡ map term_of (take i (drop k v)) ++ (term_of (get_or v (k + i) zero_record) ∷ [])
poly_more v k i h =
    let r : List Rec = drop k v in
    let inside : i < length r = simp length-drop (omega arith) in
    rw add-one
    (ap (map term_of) (take-suc r i zero_record inside ∙ ap (λ (x : Rec). take i r ++ (x ∷ [])) (get_or-drop k v i zero_record))
    ∙ map-append term_of (take i r) (get_or v (k + i) zero_record ∷ []))

-- ── walking ──
-- One polynomial more, at a walk's end.
skip_suc : (v : List Rec) (i k : ℕ) → skip_to v i (suc k) ≡ skip_to v i k + 1 + size_at v (skip_to v i k)
skip_suc v i zero = refl
skip_suc v i (suc k) = skip_suc v (i + 1 + size_at v i) k

pub skip_more : (v : List Rec) (i k : ℕ) → skip_to v i (k + 1) ≡ skip_to v i k + 1 + size_at v (skip_to v i k)
skip_more v i k = rw add-one (skip_suc v i k)

-- A walk ends where a longer one does, or before.
skip_mono_to : (v : List Rec) (i k d : ℕ) → skip_to v i k ≤ skip_to v i (k + d)
skip_mono_to v i k zero = let e : skip_to v i (k + 0) ≡ skip_to v i k = ap (skip_to v i) {x = k + 0} {y = k} (omega arith) in omega arith
skip_mono_to v i k (suc d) =
    let e : skip_to v i (k + suc d) ≡ skip_to v i (k + d + 1) = ap (skip_to v i) {x = k + suc d} {y = k + d + 1} (omega arith) in
    omega (arith, skip_mono_to v i k d, skip_more v i (k + d))

pub skip_mono : (v : List Rec) (i j k : ℕ) → j ≤ k → skip_to v i j ≤ skip_to v i k
skip_mono v i j k h = omega (arith, skip_mono_to v i j (k - j), ap (skip_to v i) {x = j + (k - j)} {y = k} (omega arith))

-- A walk that has come to e, past j polynomials: one more, and where a longer walk ends.
pub walk_more : (v : List Rec) (i j e : ℕ) → e ≡ skip_to v i j → skip_to v i (j + 1) ≡ e + 1 + size_at v e
walk_more v i j e at = skip_more v i j ∙ ap (λ (x : ℕ). x + 1 + size_at v x) (sym at)

pub walk_in : (v : List Rec) (i j k e : ℕ) → e ≡ skip_to v i j → j < k → e + 1 + size_at v e ≤ skip_to v i k
walk_in v i j k e at h = omega (arith, walk_more v i j e at, skip_mono v i (j + 1) k (omega arith))

pub skip_turn : (v : List Rec) (i left : ℕ) → 0 < left → skip_to v i left ≡ skip_to v (i + 1 + size_at v i) (left - 1)
skip_turn v i zero h = absurd (not-suc-le-zero h)
skip_turn v i (suc k) h = ap (skip_to v (i + 1 + size_at v i)) {x = k} {y = suc k - 1} (omega arith)

pub polys_turn : (v : List Rec) (i left : ℕ) → 0 < left → polys_at v i left ≡ poly_at v i ∷ polys_at v (i + 1 + size_at v i) (left - 1)
polys_turn v i zero h = absurd (not-suc-le-zero h)
polys_turn v i (suc k) h = ap (λ (j : ℕ). poly_at v i ∷ polys_at v (i + 1 + size_at v i) j) {x = k} {y = suc k - 1} (omega arith)

pub skip_le : (v : List Rec) (i k : ℕ) → i ≤ skip_to v i k
skip_le v i zero = omega arith
skip_le v i (suc k) = omega (arith, skip_le v (i + 1 + size_at v i) k)

-- With a polynomial left, the one at i ends where the walk ends, or before.
pub skip_in : (v : List Rec) (i left : ℕ) → 0 < left → i + 1 + size_at v i ≤ skip_to v i left
skip_in v i left h = omega (arith, skip_turn v i left h, skip_le v (i + 1 + size_at v i) (left - 1))

-- ── a walk by the heads as they are read ──
-- The record behind the polynomial at record i.
abbrev pub past : List (List ℕ) → ℕ → ℕ
past w i = i + (1 + get_or (get_or w i []) 0 0)

past_is : (w : List (List ℕ)) (i : ℕ) → i + 1 + size_at (view w) i ≡ past w i
past_is w i = omega (arith, size_in w i)

-- A walk over k polynomials has passed j of them and come to record i.
module _ (w : List (List ℕ)) (i k j : ℕ) (some : j < k) where
  left : k - j ≡ suc (k - (j + 1))
  left = omega arith

  pub skip_on : skip_to (view w) (past w i) (k - (j + 1)) ≡ skip_to (view w) i (k - j)
  skip_on = sym (ap (skip_to (view w) i) left ∙ ap (λ (n : ℕ). skip_to (view w) n (k - (j + 1))) (past_is w i))

  pub polys_on : polys_at (view w) i (k - j) ≡ poly_at (view w) i ∷ polys_at (view w) (past w i) (k - (j + 1))
  polys_on = ap (polys_at (view w) i) left ∙ ap (λ (n : ℕ). poly_at (view w) i ∷ polys_at (view w) n (k - (j + 1))) (past_is w i)
