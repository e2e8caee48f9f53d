-- What the functions that walk a table's chains with a point say of it.
use Rattle.std.specs.Prelude.{◌≡◌, Bool, true, false, List, ℕ, ◌+◌, ◌*◌, ◌%◌}
use Rattle.std.specs.List.{All, Any}
use Rattle.polynomials.specs.Poly.{Poly}
use Rattle.polynomials.specs.Value.{monomial_valueℕ, value_modulo}
use Rattle.tables.specs.Words.{term_at}

-- b says whether the values at x of all polynomials pass the test, of which T says what it may answer.
pub record TestsEach (T : ℕ → Bool → Type 0) (p : ℕ) (x : List ℕ) (fs : List Poly) (b : Bool) : Type 0 where
  pub all_pass : b ≡ true → All (λ f. T (value_modulo p f x) true) fs
  pub one_fails : b ≡ false → Any (λ f. T (value_modulo p f x) false) fs

-- v plus the value at x of the term in record i, modulo p.
abbrev pub plus_term : List ℕ → ℕ → List ℕ → ℕ → ℕ → ℕ
plus_term w p x i v = (v + (term_at w i).coef * monomial_valueℕ x (term_at w i).exps % p) % p
