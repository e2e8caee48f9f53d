-- What the code tests of a head and its terms, as the definitions of reading say it.
use mathlib.Core.Path.{◌≡◌, refl, sym, ◌∙◌, ap, ap₂, subst}
use mathlib.Core.Logic.{◌≢◌}
use mathlib.Core.Bool.{Bool, true, false, not, ◌||◌}
use mathlib.Core.List.{List, ◌∷◌}
use Rattle.std.proofs.Common.{Option, None, Some, Result, Ok, Err}
use Prim.Native.Nat.{ℕ, zero, suc, ◌+◌, ◌*◌, ◌/◌, ◌%◌, ◌^◌, ◌≤◌, ◌<◌, Ordering}
use native.Mathlib.Nat.{pow-succ', div-one, div-div-eq-div-mul}
use native.Mathlib.Numerals.{add-one}
use native.Mathlib.Omega.{arith}
use native.Mathlib.Decide.{ℕ_discrete}
use borrow.Author.Tests.{le-leb, lt-leb, eq-eqb, ne_eqb, eqb-true, eqb-false}
use lib.Dec.{eqb, leb}
use lib.ListN.{drop}
use Rattle.polynomials.specs.Poly.{Term, order}
use Rattle.polynomials.specs.Packed.{bytes, exponents}
use Rattle.polynomials.specs.laws.Order.{Says, compare_says}
use Rattle.polynomials.specs.laws.Packed.{fewer_bytes, order_bytes, byte_power}
use Rattle.tables.specs.declared.Reason.TheVariants.{Head, Coefficient, Exponent, Order, Terms}
use Rattle.tables.specs.declared.Refusal.{Refusal}
use Rattle.tables.specs.Words.{word, records}
use Rattle.tables.specs.Read.{Before, first, after, not_zero, has_above, not_below, read_term, read_terms, read_head}
use Rattle.tables.specs.Solve.{refusal, checked}
use Rattle.tables.specs.Walk.{before}
use Rattle.tables.specs.laws.Chains.{checked_good, Reached, Leads, leads_on, terms_chain, term_read}

-- ── exponents ──
-- Some byte of a number is not 0 exactly if the number is not.
not_zero_bytes : (k m : ℕ) → m < 256 ^ k → not_zero (bytes k m) ≡ not (eqb m 0)
unfolding not_zero bytes
not_zero_bytes zero m h = sym (ap not (eq-eqb m 0 (omega arith)))
not_zero_bytes (suc k) m h = go (not_zero_bytes k (m / 256) (fewer_bytes k m h)) (eqb (m % 256) 0) (eqb-true (m % 256) 0) (eqb-false (m % 256) 0)
  where
    same : m % 256 ≡ 0 → eqb (m / 256) 0 ≡ eqb m 0
    same e = elim (ℕ_discrete m 0) [
      | yes z ↦ eq-eqb (m / 256) 0 (omega arith) ∙ sym (eq-eqb m 0 z)
      | no z ↦ ne_eqb (m / 256) 0 (λ q. z (omega arith)) ∙ sym (ne_eqb m 0 z)
    ]

    go : not_zero (bytes k (m / 256)) ≡ not (eqb (m / 256) 0) → (b : Bool) → (b ≡ true → m % 256 ≡ 0) → (b ≡ false → m % 256 ≢ 0)
        → elim b [ true ↦ not_zero (bytes k (m / 256)) | false ↦ true ] ≡ not (eqb m 0)
    go ih true u v = ih ∙ ap not (same (u refl))
    go ih false u v = sym (ap not (ne_eqb m 0 (λ e. v refl (omega arith))))

above_bytes : (n k m : ℕ) → n ≤ k → m < 256 ^ k → not_zero (drop n (bytes k m)) ≡ not (eqb (m / 256 ^ n) 0)
unfolding bytes
above_bytes zero k m l h = not_zero_bytes k m h ∙ ap (λ (z : ℕ). not (eqb z 0)) (sym (div-one m))
above_bytes (suc n) zero m l h = absurd (omega arith)
above_bytes (suc n) (suc k) m l h =
    above_bytes n k (m / 256) (omega arith) (fewer_bytes k m h)
    ∙ ap (λ (z : ℕ). not (eqb z 0)) (div-div-eq-div-mul m 256 (256 ^ n) ∙ ap (λ z. m / z) (sym (pow-succ' 256 n)))

-- "A variable above vn has an exponent": the bits from 8 n on are not 0.
pub above_shift : (n m : ℕ) → n ≤ 8 → m < 2 ^ 64 → not (eqb (m / 2 ^ (8 * n)) 0) ≡ has_above n (bytes 8 m)
unfolding has_above
above_shift n m l h = ap (λ (z : ℕ). not (eqb (m / z) 0)) (sym (byte_power n)) ∙ sym (above_bytes n 8 m l h)

pub above_all : (n m : ℕ) → n ≡ 8 → false ≡ has_above n (bytes 8 m)
unfolding has_above not_zero bytes
above_all n m e = rw e

-- "Not below the term before", of monomials as numbers.
pub falls_before : (e last : ℕ) → e < 2 ^ 64 → last < 2 ^ 64 → not_below (bytes 8 e) (before (Some last)) ≡ leb last e
unfolding not_below
falls_before e last h k = go (order (bytes 8 e) (bytes 8 last)) (subst (λ (o : Ordering). Says o e last) (sym (order_bytes 8 e last h k)) (compare_says e last))
  where
    go : (o : Ordering) → Says o e last → ◌≡◌ {A = Bool} (elim o [ Ordering.lt ↦ false | Ordering.eq ↦ true | Ordering.gt ↦ true ]) (leb last e)
    go Ordering.lt l = sym (lt-leb last e l)
    go Ordering.eq l = sym (le-leb last e (omega arith))
    go Ordering.gt l = sym (le-leb last e (omega arith))

pub falls_first : (e : ℕ) → not_below (bytes 8 e) (before None) ≡ false
unfolding not_below
falls_first e = refl

pub ruleset falls = (falls_before, falls_first)

-- ── a term ──
module _ (w : List ℕ) (p n m : ℕ) (b : Option ℕ) (i : ℕ) where
  pub refused_terms : 256 ≤ m → Err (refusal Terms i) ≡ checked (read_term w p n m (before b) i)
  unfolding read_term
  refused_terms h = rw (le-leb 256 m h)

  refused_coefficient : m < 256 → eqb (word w i 0) 0 || leb p (word w i 0) ≡ true → Err (refusal Coefficient i) ≡ checked (read_term w p n m (before b) i)
  unfolding read_term
  refused_coefficient h c = rw (lt-leb 256 m h, c)

  pub refused_zero : m < 256 → word w i 0 ≡ 0 → Err (refusal Coefficient i) ≡ checked (read_term w p n m (before b) i)
  refused_zero h z = refused_coefficient h (rw (eq-eqb (word w i 0) 0 z))

  pub refused_residue : m < 256 → word w i 0 ≢ 0 → p ≤ word w i 0 → Err (refusal Coefficient i) ≡ checked (read_term w p n m (before b) i)
  refused_residue h s l = refused_coefficient h (rw (ne_eqb (word w i 0) 0 s, le-leb p (word w i 0) l))

  -- The term's monomial is e.
  module _ (e u v : ℕ) (packed : bytes 8 e ≡ exponents u v) (high : u ≡ word w i 1) (low : v ≡ word w i 2) (few : m < 256) (some : word w i 0 ≢ 0) (residue : word w i 0 < p) where
    is : bytes 8 e ≡ exponents (word w i 1) (word w i 2)
    is = packed ∙ ap₂ exponents high low

    pub refused_exponent : has_above n (bytes 8 e) ≡ true → Err (refusal Exponent i) ≡ checked (read_term w p n m (before b) i)
    unfolding read_term
    refused_exponent h = rw (lt-leb 256 m few, ne_eqb (word w i 0) 0 some, lt-leb p (word w i 0) residue, ← is, h)

    pub refused_not_below : has_above n (bytes 8 e) ≡ false → not_below (bytes 8 e) (before b) ≡ true → Err (refusal Order i) ≡ checked (read_term w p n m (before b) i)
    unfolding read_term
    refused_not_below h k = rw (lt-leb 256 m few, ne_eqb (word w i 0) 0 some, lt-leb p (word w i 0) residue, ← is, h, k)

    pub good_term : has_above n (bytes 8 e) ≡ false → not_below (bytes 8 e) (before b) ≡ false → Ok tt ≡ checked (read_term w p n m (before b) i)
    unfolding read_term
    good_term h k = rw (lt-leb 256 m few, ne_eqb (word w i 0) 0 some, lt-leb p (word w i 0) residue, ← is, h, k)

-- What each test of a term answers.
pub ruleset term_tests = (refused_terms, refused_zero, refused_residue, refused_exponent, refused_not_below, good_term)

-- The term in record j was accepted: one term more is behind.
pub terms_on : (w : List ℕ) (p n m : ℕ) (b : Option ℕ) {next : Option ℕ} {j : ℕ} {whole : Result (Unit {0}) Refusal} (behind : ℕ)
    → Leads (terms_chain w p n) (m, before b) next whole → next ≡ Some j → Ok tt ≡ checked (read_term w p n m (before b) j)
    → bytes 8 behind ≡ exponents (word w j 1) (word w j 2) → Reached (terms_chain w p n) (m + 1, before (Some behind)) j (word w j 3) whole
terms_on w p n m b {next} {j} behind l is h e =
    let g = checked_good (read_term w p n m (before b) j) (sym h) in
    let t = (term_read w p n g.1).is in
    let o = leads_on (terms_chain w p n) l is g.1 in
    let q : after g.0.exps ≡ after (bytes 8 behind) = ap after (ap (λ (t : Term). t.exps) t ∙ sym e) in
    rw (add-one, ← q) o

-- So few terms that their count fits.
pub few_terms : (w : List ℕ) (p n m i : ℕ) (b : Before) → Ok tt ≡ checked (read_term w p n m b i) → m < 256
few_terms w p n m i b h = (term_read w p n (checked_good (read_term w p n m b i) (sym h)).1).few

-- ── a head ──
not_zero_cons : (a : ℕ) (e : List ℕ) → not_zero (a ∷ e) ≡ not (eqb a 0) || not_zero e
unfolding not_zero
not_zero_cons a e = go (eqb a 0)
  where
    go : (b : Bool) → elim b [ true ↦ not_zero e | false ↦ true ] ≡ not b || not_zero e
    go true = refl
    go false = refl

module _ (w : List ℕ) (p n i : ℕ) where
  pub refused_head : word w i 1 ≢ 0 → Err (refusal Head i) ≡ checked (read_head w p n i)
  unfolding read_head
  refused_head h = rw (not_zero_cons (word w i 1), ne_eqb (word w i 1) 0 h)

  pub refused_head_2 : word w i 1 ≡ 0 → word w i 2 ≢ 0 → Err (refusal Head i) ≡ checked (read_head w p n i)
  unfolding read_head
  refused_head_2 e h = rw (not_zero_cons (word w i 1), eq-eqb (word w i 1) 0 e, not_zero_cons (word w i 2), ne_eqb (word w i 2) 0 h)

  pub head_terms : word w i 1 ≡ 0 → word w i 2 ≡ 0 → checked (read_terms w p n (records w) 0 first i (word w i 0)) ≡ checked (read_head w p n i)
  unfolding read_head not_zero
  head_terms e h = rw (not_zero_cons (word w i 1), eq-eqb (word w i 1) 0 e, not_zero_cons (word w i 2), eq-eqb (word w i 2) 0 h)

-- What the tests of a head answer.
pub ruleset head_tests = (refused_head, refused_head_2, head_terms)
