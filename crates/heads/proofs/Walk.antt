-- Stored polynomials passed one after the other, and what the head and the first term of one say of it.
use Rattle.std.specs.Prelude.{◌≡◌, ◌≢◌, true, false, List, [], ◌∷◌, map, ℕ, zero, suc, ◌+◌, ◌-◌, ◌≤◌, ◌<◌, length, take, drop, get_or}
use Rattle.std.proofs.Common.{sym, ap, ◌∙◌, subst, arith, ◌||◌, max}
use native.Mathlib.Nat.{not-suc-le-zero}
use native.Mathlib.Decide.{ℕ_discrete}
use Rattle.std.proofs.Math.Seq.{drop-cons}
use Rattle.records.specs.Records.{Rec, zero_record, view}
use Rattle.records.proofs.Rows.{length_view}
use Rattle.stored.proofs.Laws.{size_in, skip_in, past, skip_on, polys_on}
use Rattle.stored.specs.Stored.{size_at, term_of, poly_at, polys_at}
use Rattle.polynomials.specs.Poly.{Poly}
use Rattle.polynomials.specs.Division.{degree, degrees, highest, leader}
use Rattle.polynomials.specs.Packed.{bytes, term, terms}
use Rattle.polynomials.specs.Working.{Holds}
use Rattle.polynomials.specs.laws.Places.{places_terms}
use Rattle.polynomials.specs.laws.Parts.{above_leader, degree_first, leader_first}
use Rattle.polynomials.specs.declared.Term.{Term as Packed}
use Rattle.rules.specs.Branch.{is_zero, some_zero, is_one, some_one, highest_leader}
use Rattle.heads.specs.Heads.{AllHold}

-- ── walking ──
-- The polynomials of the rules.
abbrev pub all_at : List Rec → ℕ → ℕ → List Poly
all_at v i k = map terms (polys_at v i k)

-- A walk over k polynomials has passed j of them and come to record i.
module _ (w : List (List ℕ)) (i k j : ℕ) (some : j < k) where
  pub all_on : all_at (view w) i (k - j) ≡ terms (poly_at (view w) i) ∷ all_at (view w) (past w i) (k - (j + 1))
  all_on = ap (map terms) (polys_on w i k j some)

  pub hold_here : ((p : ℕ) × AllHold p (polys_at (view w) i (k - j))) → (p : ℕ) × Holds p (poly_at (view w) i)
  hold_here h = (h.0, (subst (AllHold h.0) (polys_on w i k j some) h.1).0)

  pub hold_on : ((p : ℕ) × AllHold p (polys_at (view w) i (k - j))) → (p : ℕ) × AllHold p (polys_at (view w) (past w i) (k - (j + 1)))
  hold_on h = (h.0, (subst (AllHold h.0) (polys_on w i k j some) h.1).1)

  pub zero_on : some_zero (all_at (view w) i (k - j)) ≡ (is_zero (terms (poly_at (view w) i)) || some_zero (all_at (view w) (past w i) (k - (j + 1))))
  unfolding some_zero
  zero_on = ap some_zero all_on

  pub one_on : some_one (all_at (view w) i (k - j)) ≡ (is_one (terms (poly_at (view w) i)) || some_one (all_at (view w) (past w i) (k - (j + 1))))
  unfolding some_one
  one_on = ap some_one all_on

  pub leader_on : highest_leader (all_at (view w) i (k - j)) ≡ max (leader (terms (poly_at (view w) i))) (highest_leader (all_at (view w) (past w i) (k - (j + 1))))
  unfolding highest_leader
  leader_on = ap highest_leader all_on

-- At the walk's end.
module _ (v : List Rec) (i k : ℕ) (none : k ≡ 0) where
  pub zero_end : some_zero (all_at v i k) ≡ false
  unfolding some_zero
  zero_end = ap (λ (n : ℕ). some_zero (all_at v i n)) none

  pub one_end : some_one (all_at v i k) ≡ false
  unfolding some_one
  one_end = ap (λ (n : ℕ). some_one (all_at v i n)) none

  pub leader_end : highest_leader (all_at v i k) ≡ 0
  unfolding highest_leader
  leader_end = ap (λ (n : ℕ). highest_leader (all_at v i n)) none

-- ── a polynomial by its head and first term ──
-- Its first term.
abbrev pub first_at : List Rec → ℕ → Packed
first_at v i = term_of (get_or v (i + 1) zero_record)

-- Those behind it.
abbrev pub behind_first : List Rec → ℕ → List Packed
behind_first v i = map term_of (take (size_at v i - 1) (drop (suc (i + 1)) v))

first_term : (n : ℕ) (r : List Rec) (x : Rec) (l : List Rec) → 0 < n → r ≡ x ∷ l → map term_of (take n r) ≡ term_of x ∷ map term_of (take (n - 1) l)
first_term zero r x l h e = absurd (not-suc-le-zero h)
first_term (suc n) r x l h e =
    ap (λ (s : List Rec). map term_of (take (suc n) s)) e ∙ ap (λ (k : ℕ). term_of x ∷ map term_of (take k l)) {x = n} {y = suc n - 1} (omega arith)

pub no_terms : (v : List Rec) (i : ℕ) → size_at v i ≡ 0 → poly_at v i ≡ []
unfolding poly_at
no_terms v i h = ap (λ (n : ℕ). map term_of (take n (drop (i + 1) v))) h

pub poly_first : (v : List Rec) (i : ℕ) → 0 < size_at v i → i + 1 + size_at v i ≤ length v → poly_at v i ≡ first_at v i ∷ behind_first v i
unfolding poly_at
poly_first v i some fits =
    first_term (size_at v i) (drop (i + 1) v) (get_or v (i + 1) zero_record) (drop (suc (i + 1)) v) some (drop-cons v (i + 1) zero_record (omega arith))

-- ── zero ──
pub zero_at : (v : List Rec) (i : ℕ) → size_at v i ≡ 0 → is_zero (terms (poly_at v i)) ≡ true
unfolding is_zero terms
zero_at v i h = ap (λ (s : List Packed). is_zero (terms s)) (no_terms v i h)

pub not_zero_at : (v : List Rec) (i : ℕ) → 0 < size_at v i → i + 1 + size_at v i ≤ length v → is_zero (terms (poly_at v i)) ≡ false
unfolding is_zero terms
not_zero_at v i h fits = ap (λ (s : List Packed). is_zero (terms s)) (poly_first v i h fits)

-- ── the leading variable ──
pub no_leader_at : (v : List Rec) (i : ℕ) → size_at v i ≡ 0 → leader (terms (poly_at v i)) ≡ 0
unfolding leader degrees highest terms
no_leader_at v i h = ap (λ (s : List Packed). leader (terms s)) (no_terms v i h)

pub led_some : (v : List Rec) (i k : ℕ) → leader (terms (poly_at v i)) ≡ suc k → 0 < size_at v i
led_some v i k l = elim (ℕ_discrete (size_at v i) 0) [ yes e ↦ absurd (omega (arith, no_leader_at v i e)) | no n ↦ let n' : size_at v i ≢ 0 = n in omega arith ]

-- The first monomial of a polynomial tells its leading variable, and the degree in that.
module _ (p : ℕ) (t : Packed) (s : List Packed) (h : Holds p (t ∷ s)) where
  leader_head : leader (terms (t ∷ s)) ≡ highest (bytes 8 t.monomial)
  unfolding terms
  leader_head = leader_first p 8 (term t) (terms s) h.canonical (places_terms (t ∷ s))

  degree_head : (k : ℕ) → leader (terms (t ∷ s)) ≡ suc k → degree k (terms (t ∷ s)) ≡ get_or (bytes 8 t.monomial) k 0
  unfolding terms
  degree_head k l =
      degree_first p k 8 (term t) (terms s) h.canonical (places_terms (t ∷ s)) (λ j m. above_leader (terms (t ∷ s)) j (omega arith))

module _ (v : List Rec) (i : ℕ) (holds : (p : ℕ) × Holds p (poly_at v i)) (some : 0 < size_at v i) (fits : i + 1 + size_at v i ≤ length v) where
  first : poly_at v i ≡ first_at v i ∷ behind_first v i
  first = poly_first v i some fits

  holds_first : Holds holds.0 (first_at v i ∷ behind_first v i)
  holds_first = subst (Holds holds.0) first holds.1

  pub leader_at_first : leader (terms (poly_at v i)) ≡ highest (bytes 8 (first_at v i).monomial)
  leader_at_first = ap (λ (s : List Packed). leader (terms s)) first ∙ leader_head holds.0 (first_at v i) (behind_first v i) holds_first

  pub degree_at_first : (k : ℕ) → leader (terms (poly_at v i)) ≡ suc k → degree k (terms (poly_at v i)) ≡ get_or (bytes 8 (first_at v i).monomial) k 0
  degree_at_first k l =
      ap (λ (s : List Packed). degree k (terms s)) first
      ∙ degree_head holds.0 (first_at v i) (behind_first v i) holds_first k (sym (ap (λ (s : List Packed). leader (terms s)) first) ∙ l)

-- ── what each function's proof takes ──
pub ruleset passing = (size_in, skip_in, skip_on)

pub ruleset zeros = (passing, length_view, zero_at, not_zero_at, zero_on, zero_end)

pub ruleset ones = (passing, one_on, one_end)

pub ruleset leader_tests = (length_view, size_in, no_leader_at, leader_at_first)

pub ruleset leaders = (passing, hold_here, hold_on, leader_on, leader_end)
