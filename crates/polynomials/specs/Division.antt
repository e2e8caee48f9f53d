-- Degrees, the parts of a polynomial by the powers of one variable, and the remainder. The variable v(k+1) stands at position k of
-- the exponents.
use Rattle.std.specs.Prelude.{[], ◌∷◌, true, false, ℕ, zero, suc, ◌-◌, max, eqb, leb, get_or, set}
use Rattle.polynomials.specs.Poly.{Exponents, Poly, join, sum, difference, product}

-- The degree in v(k+1); 0 for zero.
unfoldable pub degree : ℕ → Poly → ℕ
degree k [] = 0
degree k (t ∷ f) = max (get_or t.exps k 0) (degree k f)

-- The degrees in all variables, v1's first; none for zero.
unfoldable pub largest : Exponents → Exponents → Exponents
largest [] ys = ys
largest (x ∷ xs) [] = x ∷ xs
largest (x ∷ xs) (y ∷ ys) = max x y ∷ largest xs ys

unfoldable pub degrees : Poly → Exponents
degrees [] = []
degrees (t ∷ f) = largest t.exps (degrees f)

-- The place, from 1, of the last exponent other than 0; 0 where there is none.
unfoldable pub highest : Exponents → ℕ
highest [] = 0
highest (n ∷ e) = elim (highest e) [ zero ↦ elim (eqb n 0) [ true ↦ 0 | false ↦ 1 ] | suc k ↦ suc (suc k) ]

-- "Leading variable: the highest with a nonzero exponent": k for vk, 0 for a polynomial without one.
unfoldable pub leader : Poly → ℕ
leader f = highest (degrees f)

-- The coefficient of v(k+1)^d, and the polynomial without that power.
unfoldable pub coefficient : ℕ → ℕ → Poly → Poly
coefficient k d [] = []
coefficient k d (t ∷ f) =
    elim (eqb (get_or t.exps k 0) d) [ true ↦ record { coef = t.coef; exps = set t.exps k 0 } ∷ coefficient k d f | false ↦ coefficient k d f ]

unfoldable pub without : ℕ → ℕ → Poly → Poly
without k d [] = []
without k d (t ∷ f) = elim (eqb (get_or t.exps k 0) d) [ true ↦ without k d f | false ↦ t ∷ without k d f ]

-- "Initial: the coefficient of its highest power. Rest: the polynomial without that power", with v(k+1) the leading variable.
unfoldable pub initial : ℕ → Poly → Poly
initial k f = coefficient k (degree k f) f

unfoldable pub rest : ℕ → Poly → Poly
rest k f = without k (degree k f) f

-- The exponents of v(k+1)^m, and f times it.
unfoldable pub pure_power : ℕ → ℕ → Exponents
pure_power zero m = m ∷ []
pure_power (suc k) m = 0 ∷ pure_power k m

unfoldable pub shift : ℕ → ℕ → Poly → Poly
shift k m [] = []
shift k m (t ∷ f) = record { coef = t.coef; exps = join (pure_power k m) t.exps } ∷ shift k m f

unfoldable pub constant_one : Poly
constant_one = record { coef = 1; exps = [] } ∷ []

unfoldable pub power : ℕ → Poly → ℕ → Poly
power p f zero = constant_one
power p f (suc n) = product p f (power p f n)

-- One round of the division of R by G, of degree d in v(k+1): "R becomes I×R minus L×vk^(e−d)×T", with `factor` for L×vk^(e−d).
unfoldable pub factor : ℕ → ℕ → Poly → Poly
factor k d R = shift k (degree k R - d) (coefficient k (degree k R) R)

module _ (p k d : ℕ) (G : Poly) where
  unfoldable pub round : Poly → Poly
  round R = difference p (product p (coefficient k d G) R) (product p (factor k d R) G)

  -- The remainder and the number of rounds, for at most n rounds.
  unfoldable pub remainder : ℕ → Poly → Poly
  remainder zero R = R
  remainder (suc n) R = elim (leb d (degree k R)) [ true ↦ remainder n (round R) | false ↦ R ]

  unfoldable pub rounds : ℕ → Poly → ℕ
  rounds zero R = 0
  rounds (suc n) R = elim (leb d (degree k R)) [ true ↦ suc (rounds n (round R)) | false ↦ 0 ]

  -- The multiple of G: never formed by the code.
  unfoldable pub multiple : ℕ → Poly → Poly
  multiple zero R = []
  multiple (suc n) R =
      elim (leb d (degree k R)) [
        | true ↦ sum p (multiple n (round R)) (product p (power p (coefficient k d G) (rounds n (round R))) (factor k d R))
        | false ↦ []
      ]
