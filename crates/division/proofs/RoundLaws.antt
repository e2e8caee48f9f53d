-- The laws behind `division`, on values and lists: the terms lent, a factor of 1, a row taken off, the factor of a round, and the round from what its calls
-- answered.
use Rattle.std.specs.Prelude.{◌≡◌, refl, List, [], ◌∷◌, Bool, true, false, ℕ, zero, suc, ◌+◌, ◌-◌, ◌*◌, ◌≤◌, ◌<◌, length, take, get_or, Result, Ok, Err}
use Rattle.std.proofs.Common.{sym, ◌∙◌, ap, subst, arith, length-take-le}
use Prim.Native.Nat.{Fin}
use native.Mathlib.Nat.{add-sub_of_le, le_of_lt, mul-le-mul_right}
use Rattle.residues.specs.Field.{CommRing, cast}
use Rattle.residues.specs.laws.Ring.{ring_laws, cast_add, neg_unique}
use Rattle.residues.specs.laws.Residues.{Residues, cast_modulus}
use Rattle.polynomials.specs.Poly.{Exponents, Term, Poly, join, add_multiple, sum, difference, product}
use Rattle.polynomials.specs.Canonical.{Under, Canonical}
use Rattle.polynomials.specs.Division.{degree, coefficient, pure_power, shift, factor}
use Rattle.polynomials.specs.Value.{weigh}
use Rattle.polynomials.specs.Packed.{bytes, term, terms, AllFit}
use Rattle.polynomials.specs.Bounds.{
  standard,
  at_most,
  over,
  Bounded,
  within,
  degree_passed,
  and_then,
  degrees_over,
  tested,
  bounded_product,
  bounded_difference,
  bounded_round,
}
use Rattle.polynomials.specs.Working.{Holds, Forms}
use Rattle.polynomials.specs.declared.Term.{Term as Packed}
use Rattle.polynomials.specs.declared.Passed.{Passed}
use Rattle.polynomials.specs.declared.Passed.TheVariants.{Degree}
use Rattle.polynomials.specs.laws.Order.{order_join}
use Rattle.polynomials.specs.laws.Weigh.{weigh_add_multiple, weigh_difference}
use Rattle.polynomials.specs.laws.Canonical.{canonical_add_multiple, canonical_difference, canonical_coefficient, canonical_ext}
use Rattle.polynomials.specs.laws.PolynomialRing.{Canon, canon_is}
use Rattle.polynomials.specs.laws.Merge.{multiple_zeros}
use Rattle.polynomials.specs.laws.Packed.{byte_small}
use Rattle.polynomials.specs.laws.Terms.{length_terms}
use Rattle.polynomials.specs.laws.Places.{Places, places_terms, places_coefficient}
use Rattle.polynomials.specs.laws.Bounds.{no_degrees_over, degree_small}
use Rattle.polynomials.specs.laws.Product.{product_length, row_fits}
use Rattle.polynomials.specs.laws.Bounded.{at_most_over, product_within, product_formed}
use Rattle.polynomials.specs.laws.Answers.{Answered, then_formed, then_passed}
use Rattle.division.specs.Lent.{lent_for_difference, lent_for_round}
use Rattle.division.specs.declared.Pivot.{Pivot}

byte_zero : (n k : ℕ) → get_or (bytes n 0) k 0 ≡ 0
unfolding bytes
byte_zero zero k = refl
byte_zero (suc n) zero = refl
byte_zero (suc n) (suc k) = byte_zero n k

-- a minus f times g, tested.
abbrev subtracted : ℕ → Poly → Poly → Poly → Bounded
subtracted p f g a = and_then (bounded_product standard p f g) (bounded_difference standard p a)

-- ── the terms lent: R has n, the initial c, the pivot m and the factor l ──
pub difference_lent : (n c m l : ℕ) → l ≤ n → (a r : ℕ) → a ≤ c * n → lent_for_round n c m ≤ r → lent_for_difference a l m ≤ r
difference_lent n c m l fewer a r k h = omega (arith, mul-le-mul_right m fewer)

-- A difference is of a, and of a product of factors of l and m terms.
pub product_difference_lent : (a b l m r : ℕ) → a ≤ 256 → b ≤ 256 → b ≤ l * m → lent_for_difference a l m ≤ r → a + b ≤ r
product_difference_lent a b l m r ha hb few h = omega arith

-- A product has no more terms than there are term products.
pub product_count : (p : ℕ) (f g : List Packed) (n : ℕ) (s : List Packed) → Answered p (bounded_product standard p (terms f) (terms g)) n s → n ≤ length f * length g
product_count p f g n s A =
    let is_product = (product_formed standard p (terms f) (terms g) (terms (take n s)) A.is).same in
    omega (
      arith,
      length-take-le n s A.inside,
      length_terms (take n s),
      ap length is_product,
      product_length p (terms f) (terms g),
      ap (λ l. l * length (terms g)) (length_terms f),
      ap (λ m. length f * m) (length_terms g),
    )

-- The term 1.
abbrev pub one : Packed
one = record { coefficient = 1; monomial = 0 }

-- ── the polynomials of a round ──
module _ (p : ℕ) (h : 1 ≤ p) where
  open Residues p h use {add as ◌⊕◌, mul as ◌⊗◌, neg as ⊖◌, nil as 𝟘}

  infixl 60 ◌⊕◌
  infixl 70 ◌⊗◌
  infix 80 ⊖◌
  abbrev 𝓕 : CommRing (Fin p)
  𝓕 = Residues p h

  one_times : (s : List Packed) → Canonical p (terms s) → product p (term one ∷ []) (terms s) ≡ terms s
  unfolding product sum
  one_times s c = multiple_zeros p 1 8 (terms s) [] (places_terms s) ∙ ap (λ (f : Canon p h). f.0) (canon_is p h (terms s, c))

  cast_negative : (c : ℕ) → c < p → cast 𝓕 (p - c) ≡ ⊖ cast 𝓕 c
  cast_negative c l = neg_unique 𝓕 (cast 𝓕 c) (cast 𝓕 (p - c)) (sym (cast_add 𝓕 c (p - c)) ∙ ap (cast 𝓕) (add-sub_of_le (le_of_lt l)) ∙ cast_modulus p h)

  difference_row : (t : Term) (g f : Poly) → t.coef < p → Canonical p f → difference p f (product p (t ∷ []) g) ≡ add_multiple p (p - t.coef) t.exps g f
  unfolding product weigh
  difference_row t g f l c = canonical_ext p h _ _ (canonical_difference p f _ h c) (canonical_add_multiple p (p - t.coef) t.exps g f h c) (λ w.
      weigh_difference 𝓕 p (cast_modulus p h) h w f (product p (t ∷ []) g)
      ∙ ap (λ z. weigh 𝓕 w f ⊕ ⊖ z) (weigh_add_multiple 𝓕 p (cast_modulus p h) w t.coef t.exps g [])
      ∙ law (weigh 𝓕 w f) (cast 𝓕 t.coef) (weigh 𝓕 (λ e. w (join t.exps e)) g)
      ∙ ap (λ z. z ⊗ weigh 𝓕 (λ e. w (join t.exps e)) g ⊕ weigh 𝓕 w f) (sym (cast_negative t.coef l))
      ∙ sym (weigh_add_multiple 𝓕 p (cast_modulus p h) w (p - t.coef) t.exps g f))
    where
      law : (a c x : Fin p) → a ⊕ ⊖ (c ⊗ x ⊕ 𝟘) ≡ (⊖ c) ⊗ x ⊕ a
      law a c x = simp ring_laws

  times_one : (s : List Packed) → Holds p s → bounded_product standard p (term one ∷ []) (terms s) ≡ within (terms s)
  unfolding degree
  times_one s H =
      product_within standard p (term one ∷ []) (terms s) degrees
      (ap (λ f. over (at_most 256) (length f)) same ∙ at_most_over 256 (length (terms s)) (omega (arith, H.few, length_terms s))) ∙ ap within same
    where
      same : product p (term one ∷ []) (terms s) ≡ terms s
      same = one_times s H.canonical

      degrees : degrees_over (at_most 255) (term one ∷ []) (terms s) ≡ false
      degrees = no_degrees_over 255 (term one ∷ []) (terms s) (λ k. omega (arith, byte_zero 8 k, degree_small k s))

  module _ (c m : ℕ) (t : List Packed) where
    abbrev row : Term
    row = record { coef = c; exps = bytes 8 m }

    row_tested : (a : List Packed) → c < p → Holds p t → Canonical p (terms a) → degrees_over (at_most 255) (row ∷ []) (terms t) ≡ false →
        subtracted p (row ∷ []) (terms t) (terms a) ≡ tested standard (add_multiple p (p - c) (bytes 8 m) (terms t) (terms a))
    unfolding bounded_difference
    row_tested a l H K d =
        ap (λ x. and_then x (bounded_difference standard p (terms a))) (product_within standard p (row ∷ []) (terms t) d few)
        ∙ ap (tested standard) (difference_row row (terms t) (terms a) l K)
      where
        few : over (at_most 256) (length (product p (row ∷ []) (terms t))) ≡ false
        few = at_most_over 256 _ (omega (arith, product_length p (row ∷ []) (terms t), H.few, length_terms t))

    row_passed : degrees_over (at_most 255) (row ∷ []) (terms t) ≡ true → bounded_product standard p (row ∷ []) (terms t) ≡ degree_passed
    unfolding bounded_product degree
    row_passed = go (terms t)
      where
        go : (g : Poly) → degrees_over (at_most 255) (row ∷ []) g ≡ true → bounded_product standard p (row ∷ []) g ≡ degree_passed
        go [] e = cc (no_degrees_over 255 (row ∷ []) [] (λ k. omega (arith, byte_small 8 m k)))
        go (u ∷ g) e = ap (λ (o : Bool). elim o as (λ o. Bounded) [ true ↦ degree_passed | false ↦ tested standard (product p (row ∷ []) (u ∷ g)) ]) e

-- ── the factor is canonical ──
under_shift : (n k m : ℕ) (e : Exponents) (f : Poly) → length e ≡ n → Places n f → Under e f → Under (join (pure_power k m) e) (shift k m f)
unfolding shift
under_shift n k m e [] q a u = tt
under_shift n k m e (t ∷ f) q a u = (order_join (pure_power k m) t.exps e (a.0 ∙ sym q) ∙ u.0, under_shift n k m e f q a.1 u.1)

canonical_shift : (p n k m : ℕ) (f : Poly) → Places n f → Canonical p f → Canonical p (shift k m f)
unfolding shift
canonical_shift p n k m [] a c = tt
canonical_shift p n k m (t ∷ f) a c = (c.0, c.1, under_shift n k m t.exps f a.0 a.1 c.2, canonical_shift p n k m f a.1 c.3)

pub canonical_factor : (p k d : ℕ) (s : List Packed) → Canonical p (terms s) → Canonical p (factor k d (terms s))
unfolding factor
canonical_factor p k d s c =
    let e = degree k (terms s) in
    canonical_shift p 8 k (e - d) (coefficient k e (terms s)) (places_coefficient 8 k e (terms s) (places_terms s)) (canonical_coefficient p k e (terms s) c)

-- ── f copied, where the initial is 1 ──
pub copy_forms : (p : ℕ) → 1 ≤ p → (f x : List Packed) → Holds p f → length f ≤ length x → take (length f) x ≡ f
    → Forms (bounded_product standard p (terms (one ∷ [])) (terms f)) (Ok (length f)) x
unfolding terms
copy_forms p h f x H room copied = subst (λ B. Forms B (Ok (length f)) x) (sym (times_one p h f H))
    (ap Ok (sym (length_terms f)), record { within = omega (arith, length_terms f); holds = ap (λ n. terms (take n x)) (length_terms f) ∙ ap terms copied })

-- ── a row taken off: the first term of r is its factor ──
-- That term.
abbrev pub first : List Packed → Packed
first r = get_or r 0 (record { coefficient = 0; monomial = 0 })

first_taken : (r : List Packed) → 1 ≤ length r → take 1 r ≡ first r ∷ []
first_taken [] h = absurd (omega arith)
first_taken (c ∷ r) h = refl

module _ (p : ℕ) (r t : List Packed) (room : 1 ≤ length r) (K : Holds p (take 1 r)) where
  pub factor_coefficient : (1 ≤ (first r).coefficient) × ((first r).coefficient < p)
  unfolding terms
  factor_coefficient = let k : Holds p (first r ∷ []) = subst (Holds p) (first_taken r room) K in (k.canonical.0, k.canonical.1)

  positive : 1 ≤ p
  positive = omega (arith, factor_coefficient)

  -- The test of the degrees, of that term.
  tested_first : (b : Bool) → degrees_over (at_most 255) (terms (take 1 r)) (terms t) ≡ b → degrees_over (at_most 255) (terms (first r ∷ [])) (terms t) ≡ b
  tested_first b d = subst (λ f. degrees_over (at_most 255) (terms f) (terms t) ≡ b) (first_taken r room) d

  pub factor_fits : degrees_over (at_most 255) (terms (take 1 r)) (terms t) ≡ false → AllFit (first r).monomial t
  factor_fits d = row_fits (first r ∷ []) 0 (first r) (omega arith) t (tested_first false d)

  pub row_refused : (s : List Packed) (k : Poly → Bounded) → degrees_over (at_most 255) (terms (take 1 r)) (terms t) ≡ true
      → Forms (and_then (bounded_product standard p (terms (take 1 r)) (terms t)) k) (Err Degree) s
  unfolding terms
  row_refused s k d = subst (λ f. Forms (and_then (bounded_product standard p (terms f) (terms t)) k) (Err Degree) s) (sym (first_taken r room))
      (subst (λ x. Forms (and_then x k) (Err Degree) s) (sym (row_passed p positive (first r).coefficient (first r).monomial t (tested_first true d))) refl)

  module _ (a : List Packed) (H : Holds p t) (A : Holds p a) (d : degrees_over (at_most 255) (terms (take 1 r)) (terms t) ≡ false) where
    same : tested standard (add_multiple p (p - (first r).coefficient) (bytes 8 (first r).monomial) (terms t) (terms a)) ≡ subtracted p (terms (take 1 r)) (terms t) (terms a)
    unfolding terms
    same = sym (ap (λ f. subtracted p (terms f) (terms t) (terms a)) (first_taken r room)
        ∙ row_tested p positive (first r).coefficient (first r).monomial t a factor_coefficient.1 H A.canonical (tested_first false d))

    pub row_formed : (q : Result ℕ Passed) (s : List Packed)
        → Forms (tested standard (add_multiple p (p - (first r).coefficient) (bytes 8 (first r).monomial) (terms t) (terms a))) q s
        → Forms (subtracted p (terms (take 1 r)) (terms t) (terms a)) q s
    row_formed q s = subst (λ B. Forms B q s) same

-- ── a round, from what its calls answered ──
module _ (v : Pivot) (R : Poly) (s : List Packed) where
  abbrev after : Poly → Bounded
  after x = subtracted v.p (factor v.k v.d R) (terms v.divisor.now) x

  round_is : and_then (bounded_product standard v.p (terms v.initial.now) R) after ≡ bounded_round standard v.p v.k v.d (terms v.divisor.now) R
  unfolding bounded_round
  round_is = ap (λ I. and_then (bounded_product standard v.p I R) after) v.of_initial

  pub round_formed : (n : ℕ) (x : List Packed) (r : Result ℕ Passed) (L : Poly) → Answered v.p (bounded_product standard v.p (terms v.initial.now) R) n x
      → L ≡ factor v.k v.d R → Forms (subtracted v.p L (terms v.divisor.now) (terms (take n x))) r s
      → Forms (bounded_round standard v.p v.k v.d (terms v.divisor.now) R) r s
  round_formed n x r L A q F =
      subst (λ B. Forms B r s) round_is
      (then_formed (bounded_product standard v.p (terms v.initial.now) R) after s v.p n x r A (subst (λ L. Forms (subtracted v.p L (terms v.divisor.now) (terms (take n x))) r s) q F))

  pub round_passed : (e : Passed) (r : Result ℕ Passed) (x : List Packed) → r ≡ Err e → Forms (bounded_product standard v.p (terms v.initial.now) R) r x
      → Forms (bounded_round standard v.p v.k v.d (terms v.divisor.now) R) (Err e) s
  round_passed e r x q F = subst (λ B. Forms B (Err e) s) round_is (then_passed (bounded_product standard v.p (terms v.initial.now) R) after s e r x q F)
