-- The polynomial 1, by its head and first term.
use Rattle.std.specs.Prelude.{◌≡◌, ◌≢◌, refl, Bool, false, ◌&&◌, List, [], ◌∷◌, ℕ, ◌+◌, ◌≤◌, ◌<◌, ◌^◌, eqb, length}
use Rattle.std.proofs.Common.{sym, ap, ◌∙◌, arith}
use Rattle.polynomials.specs.Poly.{Poly}
use Rattle.polynomials.specs.Packed.{terms}
use Rattle.polynomials.specs.laws.Terms.{length_terms}
use Rattle.polynomials.specs.declared.Term.{Term as Packed}
use Rattle.records.specs.Records.{Rec}
use Rattle.records.proofs.Rows.{length_view}
use Rattle.stored.proofs.Laws.{size_in}
use Rattle.stored.specs.Stored.{size_at, poly_at}
use Rattle.stored.specs.laws.Stored.{length_poly_at}
use Rattle.rules.specs.Branch.{is_one}
use Rattle.representation.specs.laws.Tests.{all_zeros_bytes}
use Rattle.heads.proofs.Walk.{first_at, behind_first, poly_first}

several_not_one : (f : Poly) → length f ≢ 1 → is_one f ≡ false
unfolding is_one
several_not_one [] h = refl
several_not_one (t ∷ []) h = absurd (h refl)
several_not_one (t ∷ (u ∷ f)) h = refl

-- A single term is 1 where its coefficient is 1 and its monomial 0.
single_one : (t : Packed) (s : List Packed) → length (t ∷ s) ≡ 1 → t.monomial < 256 ^ 8 → is_one (terms (t ∷ s)) ≡ (eqb t.coefficient 1 && eqb t.monomial 0)
unfolding is_one terms
single_one t [] h small = ap (λ (b : Bool). eqb t.coefficient 1 && b) (sym (all_zeros_bytes 8 t.monomial small))
single_one t (u ∷ s) h small = absurd (omega arith)

module _ (v : List Rec) (i : ℕ) (fits : i + 1 + size_at v i ≤ length v) where
  pub not_one_at : size_at v i ≢ 1 → is_one (terms (poly_at v i)) ≡ false
  not_one_at h =
      several_not_one (terms (poly_at v i)) (λ e. h (sym (length_terms (poly_at v i) ∙ length_poly_at v i fits) ∙ e))

  pub one_at_first : size_at v i ≡ 1 → (first_at v i).monomial < 256 ^ 8
      → is_one (terms (poly_at v i)) ≡ (eqb (first_at v i).coefficient 1 && eqb (first_at v i).monomial 0)
  one_at_first h small =
      let first = poly_first v i (omega arith) fits in
      ap (λ (s : List Packed). is_one (terms s)) first
      ∙ single_one (first_at v i) (behind_first v i) (sym (ap length first) ∙ length_poly_at v i fits ∙ h) small

-- What the test of a polynomial by its head takes.
pub ruleset one_tests = (length_view, size_in, not_one_at, one_at_first)
