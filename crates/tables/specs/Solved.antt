-- What the point tests decide, in words: a point, what it solves, and the first system that it solves.
use Rattle.std.specs.Prelude.{◌≡◌, ◌≢◌, List, ◌∷◌, ◌++◌, ℕ, ◌+◌, length}
use Rattle.residues.specs.Each.{Each}
use Rattle.polynomials.specs.Poly.{Poly}
use Rattle.polynomials.specs.Value.{value_modulo, Point}
use Rattle.tables.specs.Read.{System}

-- "A point is n residues, v1's first."
abbrev pub PointOf : ℕ → ℕ → List ℕ → Type 0
PointOf p n x = (length x ≡ n) × Point p x

module _ (p : ℕ) (x : List ℕ) where
  -- Every polynomial of the one has value 0 there and none of the other has.
  abbrev pub Solves : List Poly → List Poly → Type 0
  Solves zeros nonzeros = Each (λ f. value_modulo p f x ≡ 0) zeros × Each (λ f. value_modulo p f x ≢ 0) nonzeros

  abbrev pub Solved : System → Type 0
  Solved s = Solves s.T s.U

  -- Place r, counted from k, is that of a system solved, and those before it are not.
  pub record First (k r : ℕ) (ss : List System) : Type 0 where
    pub before : List System
    pub system : System
    pub behind : List System
    pub parts : ss ≡ before ++ (system ∷ behind)
    pub place : r ≡ k + length before
    pub unsolved : Each (λ s. ¬ Solved s) before
    pub solved : Solved system
