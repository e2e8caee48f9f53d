-- The tests of stored polynomials are the rules' tests of the polynomials that they hold.
use Rattle.std.specs.Prelude.{◌≡◌, refl, List, [], ◌∷◌, map, Bool, true, false, ◌&&◌, ◌||◌, ℕ, zero, suc, ◌+◌, ◌*◌, ◌^◌, ◌<◌, eqb}
use Rattle.std.proofs.Common.{sym, ◌∙◌, ap, ap₂, arith, ne_eqb}
use Rattle.std.proofs.Math.Bool.{and-true}
use Rattle.residues.specs.Each.{Each}
use Rattle.residues.specs.laws.Each.{each_map}
use Rattle.polynomials.specs.Poly.{Exponents, Poly, equal}
use Rattle.polynomials.specs.Packed.{bytes, word, terms}
use Rattle.polynomials.specs.laws.Equal.{equal_refl, unequal, terms_inj}
use Rattle.polynomials.specs.laws.Packed.{word_bytes}
use Rattle.stored.specs.Stored.{same, member}
use Rattle.stored.specs.laws.Stored.{equal_of_same, same_of_equal}
use Rattle.rules.specs.Branch as rules
use Rattle.branches.specs.Words.{is_zero, is_one}
use Rattle.representation.specs.Represent.{TwoWords, Sound, AllSound}
use Rattle.polynomials.specs.declared.Term.{Term as Packed}

pub is_zero_terms : (p : ℕ) (s : List Packed) → Sound p s → is_zero s ≡ rules.is_zero (terms s)
unfolding is_zero rules.is_zero terms
is_zero_terms p [] h = refl
is_zero_terms p (t ∷ s) h = refl

-- ── equality ──
-- A test that is true exactly of equal polynomials.
decides : (b : Bool) (f g : Poly) → (b ≡ true → f ≡ g) → (f ≡ g → b ≡ true) → b ≡ equal f g
decides true f g to from = sym (equal_refl f) ∙ ap (equal f) (to refl)
decides false f g to from = sym (unequal f g (λ q. let r : false ≡ true = from q in let z : ◌≡◌ {A = ℕ} 0 1 = cc in omega arith))

monomials_small : (p : ℕ) (s : List Packed) → Sound p s → Each (λ t. t.monomial < 2 ^ 64) s
monomials_small p s h = each_map TwoWords (λ t. t.monomial < 2 ^ 64) (λ t w. w.1) s h.small

module _ (p : ℕ) (s t : List Packed) (hs : Sound p s) (ht : Sound p t) where
  packed_of_terms_eq : terms s ≡ terms t → s ≡ t
  packed_of_terms_eq = terms_inj s t (monomials_small p s hs) (monomials_small p t ht)

  -- `member` of packed terms compares the other way round.
  same_terms : same s t ≡ equal (terms t) (terms s)
  same_terms = decides (same s t) (terms t) (terms s) (λ e. sym (ap terms (equal_of_same s t e))) (λ q. same_of_equal s t (packed_of_terms_eq (sym q)))

pub member_terms : (p : ℕ) (f : List Packed) (fs : List (List Packed)) → Sound p f → AllSound p fs → member f fs ≡ rules.member (terms f) (map terms fs)
unfolding member rules.member
member_terms p f [] h hs = refl
member_terms p f (g ∷ gs) h hs = ap₂ ◌||◌ (same_terms p g f hs.0 h) (member_terms p f gs h hs.1)

-- ── the term 1 ──
eqb_bytes : (n w : ℕ) → (eqb n 0 && eqb w 0) ≡ eqb (n + 256 * w) 0
eqb_bytes zero zero = refl
eqb_bytes zero (suc w) = ap (λ b. true && b) (ne_eqb (suc w) 0 (λ e. omega arith)) ∙ sym (ne_eqb (0 + 256 * suc w) 0 (λ e. omega arith))
eqb_bytes (suc n) w = ap (λ b. b && eqb w 0) (ne_eqb (suc n) 0 (λ e. omega arith)) ∙ sym (ne_eqb (suc n + 256 * w) 0 (λ e. omega arith))

all_zeros_word : (e : Exponents) → rules.all_zeros e ≡ eqb (word e) 0
unfolding rules.all_zeros word
all_zeros_word [] = refl
all_zeros_word (n ∷ e) = ap (λ b. eqb n 0 && b) (all_zeros_word e) ∙ eqb_bytes n (word e)

pub all_zeros_bytes : (n m : ℕ) → m < 256 ^ n → eqb m 0 ≡ rules.all_zeros (bytes n m)
all_zeros_bytes n m h = sym (all_zeros_word (bytes n m) ∙ ap (λ (z : ℕ). eqb z 0) (word_bytes n m h))

and_false : (a b : Bool) → (a && (b && false)) ≡ false
and_false true true = refl
and_false true false = refl
and_false false b = refl

pub is_one_terms : (p : ℕ) (s : List Packed) → Sound p s → is_one s ≡ rules.is_one (terms s)
unfolding is_one rules.is_one terms same
is_one_terms p [] h = refl
is_one_terms p (t ∷ []) h = ap (λ b. eqb t.coefficient 1 && b) (and-true (eqb t.monomial 0) ∙ all_zeros_bytes 8 t.monomial h.small.0.1)
is_one_terms p (t ∷ (u ∷ s)) h = and_false (eqb t.coefficient 1) (eqb t.monomial 0)
