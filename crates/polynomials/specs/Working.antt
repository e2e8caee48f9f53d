-- Working polynomials: packed terms in a lent slice. What contracts say of such a slice.
use Rattle.std.specs.Prelude.{◌≡◌, List, [], ◌∷◌, Bool, true, false, ◌&&◌, ℕ, ◌≤◌, leb, ltb, length, take, drop, get_or, Result, Ok, Err}
use Prim.Native.Nat.{Ordering}
use Rattle.polynomials.specs.Poly.{Exponents, Poly, order}
use Rattle.polynomials.specs.Canonical.{Canonical, All}
use Rattle.polynomials.specs.Division.{degree, initial, rest}
use Rattle.polynomials.specs.Packed.{terms}
use Rattle.polynomials.specs.Bounds.{Bounded, within, degree_passed, terms_passed}
use Rattle.polynomials.specs.declared.Term.{Term as Packed}
use Rattle.polynomials.specs.declared.Passed.{Passed}
use Rattle.polynomials.specs.declared.Passed.TheVariants.{Degree, Terms}

-- A canonical polynomial of at most 256 terms.
pub record Holds (p : ℕ) (s : List Packed) : Type 0 where
  pub few : length s ≤ 256
  pub canonical : Canonical p (terms s)

-- Whether the first term of f, where there is one, is below the monomial e.
unfoldable pub falls : Exponents → Poly → Bool
falls e [] = true
falls e (t ∷ f) = elim (order t.exps e) [ Ordering.lt ↦ true | Ordering.eq ↦ false | Ordering.gt ↦ false ]

-- Whether the terms strictly fall, with coefficients 1 to p − 1.
unfoldable pub is_canonical : ℕ → Poly → Bool
is_canonical p [] = true
is_canonical p (t ∷ f) = leb 1 t.coef && (ltb t.coef p && (falls t.exps f && is_canonical p f))

-- Whether the terms are such a polynomial, as a test: true exactly where `Holds` (`laws.Held`).
unfoldable pub is_held : ℕ → List Packed → Bool
is_held p s = leb (length s) 256 && is_canonical p (terms s)

-- The first n terms are f. What stands behind them is left free.
pub record Written (f : Poly) (n : ℕ) (s : List Packed) : Type 0 where
  pub within : n ≤ length s
  pub holds : terms (take n s) ≡ f

-- The first n terms are those of the highest power of v(k+1), and the others have lower powers.
pub record Split (k : ℕ) (s : List Packed) (n : ℕ) : Type 0 where
  pub count : n ≡ length (initial k (terms s))
  pub within : n ≤ length s
  pub front : All (λ e. get_or e k 0 ≡ degree k (terms s)) (terms (take n s))
  pub behind : terms (drop n s) ≡ rest k (terms s)

-- What a call answers, and what then stands in the slice. After a refusal it is left free.
abbrev pub Forms : Bounded → Result ℕ Passed → List Packed → Type 0
Forms (within f) r s = (r ≡ Ok (length f)) × Written f (length f) s
Forms degree_passed r s = r ≡ Err Degree
Forms terms_passed r s = r ≡ Err Terms
