-- Canonical polynomials: terms strictly falling, coefficients 1 to p − 1. A statement about all terms of a polynomial.
use Rattle.std.specs.Prelude.{◌≡◌, [], ◌∷◌, ℕ, ◌≤◌, ◌<◌}
use Prim.Native.Nat.{Ordering}
use Rattle.residues.specs.Each.{Each}
use Rattle.polynomials.specs.Poly.{Exponents, Poly, order}

-- All of f is below the monomial e.
abbrev pub Under : Exponents → Poly → Type 0
Under e f = Each (λ t. order t.exps e ≡ Ordering.lt) f

abbrev pub Canonical : ℕ → Poly → Type 0
Canonical p [] = Unit {0}
Canonical p (t ∷ f) = (1 ≤ t.coef) × (t.coef < p) × Under t.exps f × Canonical p f

-- P holds of the exponents of each term.
abbrev pub All : (Exponents → Type 0) → Poly → Type 0
All P f = Each (λ t. P t.exps) f
