-- Terms and polynomials over the residues modulo p: "a list of at most 256 terms with nonzero coefficients, strictly falling",
-- unbounded here (the bounds stand in Bounds.antt). Sum, difference, product and monic are all made of one operation, the insertion of a term.
use Rattle.std.specs.Prelude.{List, [], ◌∷◌, Bool, true, false, ◌&&◌, eqb}
use Prim.Native.Nat.{ℕ, ◌+◌, ◌-◌, ◌*◌, ◌%◌, compare, Ordering}
use Rattle.std.proofs.Math.Dec.{compare_is_eq}
use Rattle.residues.specs.Residue.{inverse}

-- The exponents of a monomial, v1's first.
abbrev pub Exponents : Type 0
Exponents = List ℕ

pub record Term : Type 0 where
  pub coef : ℕ
  pub exps : Exponents

abbrev pub Poly : Type 0
Poly = List Term

-- The first outcome, unless it is `eq`.
abbrev pub and_then : Ordering → Ordering → Ordering
and_then Ordering.lt o = Ordering.lt
and_then Ordering.eq o = o
and_then Ordering.gt o = Ordering.gt

-- "Compare the exponent of vn first, then v(n−1), down to v1."
unfoldable pub order : Exponents → Exponents → Ordering
order [] [] = Ordering.eq
order [] (y ∷ ys) = Ordering.lt
order (x ∷ xs) [] = Ordering.gt
order (x ∷ xs) (y ∷ ys) = and_then (order xs ys) (compare x y)

-- The exponents of a product of monomials.
unfoldable pub join : Exponents → Exponents → Exponents
join [] ys = ys
join (x ∷ xs) [] = x ∷ xs
join (x ∷ xs) (y ∷ ys) = (x + y) ∷ join xs ys

-- A term in front, unless its coefficient is 0.
unfoldable pub keep : ℕ → Exponents → Poly → Poly
keep c e f = elim (eqb c 0) [ true ↦ f | false ↦ record { coef = c; exps = e } ∷ f ]

-- f plus the term c·e.
unfoldable pub insert : ℕ → ℕ → Exponents → Poly → Poly
insert p c e [] = keep c e []
insert p c e (t ∷ f) =
    elim (order e t.exps) [
      | Ordering.lt ↦ t ∷ insert p c e f
      | Ordering.eq ↦ keep ((c + t.coef) % p) e f
      | Ordering.gt ↦ keep c e (t ∷ f)
    ]

-- f plus c·e times g.
unfoldable pub add_multiple : ℕ → ℕ → Exponents → Poly → Poly → Poly
add_multiple p c e [] f = f
add_multiple p c e (t ∷ g) f = insert p (c * t.coef % p) (join e t.exps) (add_multiple p c e g f)

unfoldable pub sum : ℕ → Poly → Poly → Poly
sum p f g = add_multiple p 1 [] f g

unfoldable pub difference : ℕ → Poly → Poly → Poly
difference p f g = add_multiple p (p - 1) [] g f

unfoldable pub product : ℕ → Poly → Poly → Poly
product p [] g = []
product p (t ∷ f) g = add_multiple p t.coef t.exps g (product p f g)

-- "Divided by the coefficient of its first term; zero stays zero."
unfoldable pub monic : ℕ → Poly → Poly
monic p [] = []
monic p (t ∷ f) = add_multiple p (inverse p t.coef) [] (t ∷ f) []

-- Whether two polynomials are equal: the same terms.
unfoldable pub equal : Poly → Poly → Bool
equal [] [] = true
equal [] (u ∷ g) = false
equal (t ∷ f) [] = false
equal (t ∷ f) (u ∷ g) = eqb t.coef u.coef && (compare_is_eq (order t.exps u.exps) && equal f g)
