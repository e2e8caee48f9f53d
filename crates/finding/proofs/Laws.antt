-- What the loops compare.
use Rattle.std.proofs.Common.{◌≡◌, sym, ap, ◌∙◌, ◌≢◌, Bool, true, false, not, ◌&&◌, ◌||◌, List, ℕ, ◌+◌, ◌-◌, ◌≤◌, ◌<◌, eqb, eq-eqb, eqb-true, length, get_or, take, drop, arith, length-drop, length-take-le}
use Rattle.std.proofs.Math.Bool.{and-eq-true_iff}
use Rattle.std.proofs.lemmas.Bool.{not-false, not-true, false_from_ne_true, false≢true}
use Rattle.std.proofs.lemmas.List.{get_or-map, get_or-take, get_or-drop}
use Rattle.polynomials.specs.declared.Term.{Term as Packed}
use Rattle.records.specs.Records.{Rec, zero_record}
use Rattle.stored.specs.Stored.{term_of, size_at, poly_at, polys_at, same, member}
use Rattle.stored.specs.laws.Stored.{equal_of_same}
use Rattle.stored.proofs.Laws.{polys_turn}

-- ── one compared ──
-- What a read finds past the end.
abbrev pub zero_term : Packed
zero_term = record { coefficient = 0; monomial = 0 }

-- The term j of the polynomial at i.
pub term_at_poly : (v : List Rec) (i j : ℕ) → i + 1 + size_at v i ≤ length v → j < size_at v i
    → get_or (poly_at v i) j zero_term ≡ term_of (get_or v (i + 1 + j) zero_record)
unfolding poly_at
term_at_poly v i j fits h =
    let r : List Rec = drop (i + 1) v in
    let n = size_at v i in
    get_or-map term_of (take n r) j zero_record zero_term (simp (length-take-le n r (simp length-drop (omega arith))) h)
    ∙ ap term_of (get_or-take n r j zero_record h ∙ get_or-drop (i + 1) v j zero_record)

-- The derived test decides equality.
abbrev eq_terms : Packed → Packed → Bool
eq_terms x y = eqb x.coefficient y.coefficient && eqb x.monomial y.monomial

pub equal_terms : (x y : Packed) (b : Bool) → b ≡ not (eq_terms x y) → b ≡ false → x ≡ y
equal_terms x y b e h =
    let both = (and-eq-true_iff (eqb x.coefficient y.coefficient) (eqb x.monomial y.monomial)).0 (not-false (eq_terms x y) (sym e ∙ h)) in
    λ i. record { coefficient = eqb-true x.coefficient y.coefficient both.0 i; monomial = eqb-true x.monomial y.monomial both.1 i }

pub other_terms : (x y : Packed) (b : Bool) → b ≡ not (eq_terms x y) → b ≡ true → x ≢ y
other_terms x y b e h same =
    let eq : eq_terms x y ≡ true =
    (and-eq-true_iff (eqb x.coefficient y.coefficient) (eqb x.monomial y.monomial)).1
    (eq-eqb x.coefficient y.coefficient (ap (λ (t : Packed). t.coefficient) same), eq-eqb x.monomial y.monomial (ap (λ (t : Packed). t.monomial) same)) in
    false≢true (sym (not-true (eq_terms x y) (sym e ∙ h)) ∙ eq)

pub not_same : (s t : List Packed) → s ≢ t → false ≡ same s t
not_same s t h = sym (false_from_ne_true (same s t) (λ e. h (equal_of_same s t e)))

-- ── among several ──
pub member_turn : (f : List Packed) (v : List Rec) (i left : ℕ) → 0 < left
    → member f (polys_at v i left) ≡ (same (poly_at v i) f || member f (polys_at v (i + 1 + size_at v i) (left - 1)))
unfolding member
member_turn f v i left h = ap (member f) (polys_turn v i left h)
