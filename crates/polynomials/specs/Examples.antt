-- The definitions by computation, on polynomials that the jobs of document 01 go through.
use Rattle.std.specs.Prelude.{◌≡◌, refl, [], ◌∷◌, true, false, ℕ}
use Rattle.residues.specs.Residue.{inverse, inverse_from}
use Rattle.polynomials.specs.Poly.{Term, Poly, order, join, keep, insert, add_multiple, difference, product, monic}
use Rattle.polynomials.specs.Division.{
  degree,
  largest,
  degrees,
  highest,
  leader,
  coefficient,
  without,
  initial,
  rest,
  pure_power,
  shift,
  factor,
  round,
  remainder,
  rounds,
}
use Rattle.polynomials.specs.Value.{monomial_valueℕ, valueℕ, value_modulo}
use Rattle.polynomials.specs.Bounds.{
  standard,
  over,
  some_over,
  degrees_over,
  tested,
  within,
  degree_passed,
  terms_passed,
  Bounds,
  at_most,
  bounded_product,
  bounded_difference,
  bounded_round,
  bounded_remainder,
}
use Rattle.polynomials.specs.Packed.{bytes, exponents, terms}
use Rattle.polynomials.specs.declared.Term.{Term as Packed}
use Rattle.polynomials.specs.Working.{falls, is_canonical, is_held}

-- c·v1^a·v2^b
abbrev t : ℕ → ℕ → ℕ → Term
t c a b = record { coef = c; exps = a ∷ b ∷ 0 ∷ 0 ∷ 0 ∷ 0 ∷ 0 ∷ 0 ∷ [] }

-- v1^2 + 6, v1^2 + v1 + 5 and v1 v2 + 6
abbrev f : Poly
f = t 1 2 0 ∷ t 6 0 0 ∷ []

abbrev g : Poly
g = t 1 2 0 ∷ t 1 1 0 ∷ t 5 0 0 ∷ []

abbrev h : Poly
h = t 1 1 1 ∷ t 6 0 0 ∷ []

remainder_of_g_by_f : remainder 7 0 2 f 3 g ≡ t 1 1 0 ∷ t 6 0 0 ∷ []
unfolding remainder round degree coefficient factor shift pure_power difference product add_multiple insert keep order join
remainder_of_g_by_f = refl

in_one_round : rounds 7 0 2 f 3 g ≡ 1
unfolding rounds round degree coefficient factor shift pure_power difference product add_multiple insert keep order join
in_one_round = refl

f_by_the_remainder_is_zero : remainder 7 0 1 (t 1 1 0 ∷ t 6 0 0 ∷ []) 3 f ≡ []
unfolding remainder round degree coefficient factor shift pure_power difference product add_multiple insert keep order join
f_by_the_remainder_is_zero = refl

three_made_monic : monic 7 (t 3 0 0 ∷ []) ≡ t 1 0 0 ∷ []
unfolding monic add_multiple insert keep order join inverse inverse_from
three_made_monic = refl

h_is_led_by_v2 : leader h ≡ 2
unfolding leader highest degrees largest
h_is_led_by_v2 = refl

h_has_the_initial_v1 : initial 1 h ≡ t 1 1 0 ∷ []
unfolding initial coefficient degree
h_has_the_initial_v1 = refl

h_has_the_rest_6 : rest 1 h ≡ t 6 0 0 ∷ []
unfolding rest without degree
h_has_the_rest_6 = refl

h_is_zero_at_1_1 : value_modulo 7 h (1 ∷ 1 ∷ []) ≡ 0
unfolding value_modulo valueℕ monomial_valueℕ
h_is_zero_at_1_1 = refl

-- Power 0 is 1, also of 0; no terms give 0.
one_at_0 : value_modulo 7 (t 1 0 0 ∷ []) (0 ∷ 0 ∷ []) ≡ 1
unfolding value_modulo valueℕ monomial_valueℕ
one_at_0 = refl

-- v1^200 times v1^a v2 + 1: refusal 10 at 56 and none at 55.
degree_255_is_formed : bounded_product standard 7 (t 1 200 0 ∷ []) (t 1 55 1 ∷ t 1 0 0 ∷ []) ≡ within (t 1 255 1 ∷ t 1 200 0 ∷ [])
unfolding bounded_product degrees_over degrees largest some_over over tested product add_multiple insert keep order join
degree_255_is_formed = refl

degree_256_is_not : bounded_product standard 7 (t 1 200 0 ∷ []) (t 1 56 1 ∷ t 1 0 0 ∷ []) ≡ degree_passed
unfolding bounded_product degrees_over degrees largest some_over over tested product add_multiple insert keep order join
degree_256_is_not = refl

-- At most so many in a degree, and at most so many terms.
abbrev bounds : ℕ → ℕ → Bounds
bounds d n = record { of_degree = at_most d; of_terms = at_most n }

-- v1 v2 + 6 squared passes both bounds: refusal 10 comes first. Where the degrees pass none, 9.
degrees_before_terms : bounded_product (bounds 1 1) 7 h h ≡ degree_passed
unfolding bounded_product degrees_over degrees largest some_over over join
degrees_before_terms = refl

then_terms : bounded_product (bounds 2 1) 7 h h ≡ terms_passed
unfolding bounded_product degrees_over degrees largest some_over over tested product add_multiple insert keep order join
then_terms = refl

-- "A zero factor gives zero, untested": v1^2 + v1 + 5 alone passes both bounds.
zero_is_untested : bounded_product (bounds 1 1) 7 g [] ≡ within []
unfolding bounded_product
zero_is_untested = refl

-- "A difference is tested for 9 only."
no_degree_in_a_difference : bounded_difference (bounds 1 1) 7 (t 1 2 0 ∷ []) [] ≡ within (t 1 2 0 ∷ [])
unfolding bounded_difference tested over difference add_multiple
no_degree_in_a_difference = refl

terms_in_a_difference : bounded_difference (bounds 1 1) 7 f [] ≡ terms_passed
unfolding bounded_difference tested over difference add_multiple
terms_in_a_difference = refl

-- A round on v2 + v1 by v1 v2 + v2 + v1^3 in v2: I×R has four terms, and L×T has v1^3. I×R is formed and tested first.
abbrev dividend : Poly
dividend = t 1 0 1 ∷ t 1 1 0 ∷ []

abbrev divisor : Poly
divisor = t 1 1 1 ∷ t 1 0 1 ∷ t 1 3 0 ∷ []

the_initial_first : bounded_round (bounds 2 3) 7 1 1 divisor dividend ≡ terms_passed
unfolding bounded_round bounded_product degrees_over degrees largest some_over over tested product add_multiple insert keep order join coefficient
the_initial_first = refl

then_the_other_product : bounded_round (bounds 2 4) 7 1 1 divisor dividend ≡ degree_passed
unfolding bounded_round bounded_product degrees_over degrees largest some_over over tested product add_multiple insert keep order join coefficient degree factor shift pure_power
then_the_other_product = refl

-- The remainder of v1^55 v2 + 1 by v1^200 v2 + 1 in v2: v1^200 - v1^55.
remainder_within_bounds : bounded_remainder standard 7 1 1 (t 1 200 1 ∷ t 1 0 0 ∷ []) 2 (t 1 55 1 ∷ t 1 0 0 ∷ []) ≡ within (t 1 200 0 ∷ t 6 55 0 ∷ [])
unfolding bounded_remainder bounded_round bounded_difference bounded_product degrees_over degrees largest some_over over tested
    difference product add_multiple insert keep order join degree coefficient factor shift pure_power
remainder_within_bounds = refl

-- A table's words 0 and 257 are v1 v2.
words_of_v1_v2 : exponents 0 257 ≡ (t 1 1 1).exps
unfolding exponents bytes
words_of_v1_v2 = refl

-- Packed terms.
abbrev packed : ℕ → ℕ → Packed
packed c m = record { coefficient = c; monomial = m }

h_as_packed_terms : terms (packed 1 257 ∷ packed 6 0 ∷ []) ≡ h
unfolding terms bytes
h_as_packed_terms = refl

-- g modulo 7 and modulo 5; v1 + v1^2.
g_is_held : is_held 7 (packed 1 2 ∷ packed 1 1 ∷ packed 5 0 ∷ []) ≡ true
unfolding is_held is_canonical falls terms bytes order
g_is_held = refl

five_is_no_residue_modulo_5 : is_held 5 (packed 1 2 ∷ packed 1 1 ∷ packed 5 0 ∷ []) ≡ false
unfolding is_held is_canonical falls terms bytes order
five_is_no_residue_modulo_5 = refl

rising_terms_are_not_held : is_held 7 (packed 1 1 ∷ packed 1 2 ∷ []) ≡ false
unfolding is_held is_canonical falls terms bytes order
rising_terms_are_not_held = refl
