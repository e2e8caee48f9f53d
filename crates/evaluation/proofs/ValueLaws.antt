-- The value of a polynomial along its chain of terms, and the polynomials of a chain tested one after the other.
use Rattle.std.specs.Prelude.{◌≡◌, refl, ◌≢◌, Bool, true, false, not, List, [], ◌∷◌, ℕ, zero, suc, ◌+◌, ◌*◌, ◌%◌, ◌<◌, ◌≤◌, ◌&&◌, eqb}
use Rattle.std.specs.List.{All, list_all}
use Rattle.std.proofs.Common.{sym, ◌∙◌, ap, subst, arith}
use Rattle.std.proofs.lemmas.List.Sums.{list_all-from_AllPass}
use Rattle.std.proofs.lemmas.List.Folds.{list_all_at}
use native.Mathlib.Nat.{mod-lt, zero-add, add-zero, add-mod-mod, mod-add-mod, mod-eq_of_lt}
use Rattle.polynomials.specs.Poly.{Term, Poly}
use Rattle.polynomials.specs.Packed.{exponents}
use Rattle.polynomials.specs.Value.{monomial_valueℕ, valueℕ, value_modulo}
use Rattle.tables.specs.Words.{word, records}
use Rattle.tables.specs.Solve.{is_root, all_zero, none_zero}
use Rattle.tables.specs.laws.Chains.{term_read}
use Rattle.tables.specs.laws.Linked.{left, good_same, Member, chain_end, chain_next, chain_on, chain_less, TermsLeft, terms_left, HeadsLeft, heads_left}
use Rattle.tables.specs.laws.Accepted.{readable_numbers}
use Rattle.words.specs.declared.Table.{Table}
use Rattle.words.specs.Table.{IsPolynomialAt, ArePolynomialsFrom}
use Rattle.evaluation.specs.Walks.{TestsEach, plus_term}

-- ── the prime ──
module _ (t : Table) where
  pub prime_two : 2 ≤ t.modulus
  prime_two = (readable_numbers t.words.now t.modulus t.variables t.readable).prime.two≤

  pub prime_below : t.modulus < 2147483648
  prime_below = (readable_numbers t.words.now t.modulus t.variables t.readable).below

-- ── the value of a polynomial ──
-- v and the value of the terms from index i on make the value of the polynomial with its head in record `head`.
pub record ValueLeft (t : Table) (head : ℕ) (x : List ℕ) (v i : ℕ) : Type 0 where
  pub chain : TermsLeft t.words.now t.modulus t.variables i
  pub below : v < t.modulus
  pub sum : (f : Poly) → IsPolynomialAt t head f → (v + valueℕ chain.rest x) % t.modulus ≡ value_modulo t.modulus f x

pub value_start : {t : Table} {head : ℕ} {x : List ℕ} {f : Poly} → head < records t.words.now → IsPolynomialAt t head f
    → ValueLeft t head x 0 (word t.words.now head 0)
unfolding value_modulo
value_start {t} {head} {x} {f} h e =
    record {
      chain = terms_left t.words.now t.modulus t.variables head f h e;
      below = omega (arith, prime_two t);
      sum = λ g q. ap (λ z. z % t.modulus) (zero-add (valueℕ f x)) ∙ ap (λ (g : Poly). value_modulo t.modulus g x) (good_same (sym e ∙ q));
    }

module _ {t : Table} {head : ℕ} {x : List ℕ} {v i : ℕ} (l : ValueLeft t head x v i) where
  pub value_end : i ≡ 0 → (f : Poly) → IsPolynomialAt t head f → v ≡ value_modulo t.modulus f x
  unfolding valueℕ
  value_end z f e =
      sym (mod-eq_of_lt l.below) ∙ ap (λ z. z % t.modulus) (sym (add-zero v)) ∙ ap (λ (g : Poly). (v + valueℕ g x) % t.modulus) (sym (chain_end l.chain z)) ∙ l.sum f e

  -- The term in record i.
  module _ (more : i ≢ 0) where
    term : Member l.chain
    term = chain_next l.chain more

    pub value_inside : i < records t.words.now
    value_inside = term.inside

    pub value_residue : word t.words.now i 0 < t.modulus
    value_residue = (term_read t.words.now t.modulus t.variables term.is_read).residue

    pub value_less : left (records t.words.now) (word t.words.now i 3) < left (records t.words.now) i
    value_less = chain_less l.chain more

    pub value_next : ValueLeft t head x (plus_term t.words.now t.modulus x i v) (word t.words.now i 3)
    unfolding valueℕ term
    value_next =
        record {
          chain = chain_on l.chain more;
          below = mod-lt _ (omega (arith, prime_two t));
          sum = λ f r. regroup (word t.words.now i 0 * monomial_valueℕ x (exponents (word t.words.now i 1) (word t.words.now i 2))) (valueℕ term.behind x)
              ∙ ap (λ (u : Term). (v + valueℕ (u ∷ term.behind) x) % t.modulus) (sym (term_read t.words.now t.modulus t.variables term.is_read).is)
              ∙ ap (λ (g : Poly). (v + valueℕ g x) % t.modulus) (sym term.parts)
              ∙ l.sum f r;
        }
      where
        regroup : (q r : ℕ) → ((v + q % t.modulus) % t.modulus + r) % t.modulus ≡ (v + (q + r)) % t.modulus
        regroup q r = ap (λ z. (z + r) % t.modulus) (add-mod-mod v q t.modulus) ∙ mod-add-mod (v + q) t.modulus r ∙ ap (λ z. z % t.modulus) (omega arith)

-- ── the polynomials of a chain, tested ──
module _ {T : ℕ → Bool → Type 0} {p : ℕ} {x : List ℕ} where
  -- The first passes: the others decide.
  passes_on : (f : Poly) {fs : List Poly} {b : Bool} → T (value_modulo p f x) true → TestsEach T p x fs b → TestsEach T p x (f ∷ fs) b
  passes_on f {fs} {b} h a = record { all_pass = λ e. both (a.all_pass e); one_fails = λ e. let q = a.one_fails e in (suc q.0, q.1, omega (arith, q.2), q.3, q.4) }
    where
      both : All (λ f. T (value_modulo p f x) true) fs → All (λ f. T (value_modulo p f x) true) (f ∷ fs)
      both a zero d l = h
      both a (suc k) d l = a k d (omega arith)

  fails_on : (f : Poly) (fs : List Poly) → T (value_modulo p f x) false → TestsEach T p x (f ∷ fs) false
  fails_on f fs h = record { all_pass = λ e. cc; one_fails = λ e. (0, f, omega arith, refl, h) }

  none_fails : TestsEach T p x [] true
  none_fails = record { all_pass = λ e k d l. absurd (omega arith); one_fails = λ e. cc }

  -- A test that answers as a function of the value does.
  module _ (test : ℕ → Bool) where
    pub tested : (fs : List Poly) (b : Bool) → TestsEach T p x fs b → ((v : ℕ) (b : Bool) → T v b → b ≡ test v) → b ≡ list_all (λ f. test (value_modulo p f x)) fs
    tested fs true a h = sym (list_all-from_AllPass _ fs (λ k d l. sym (h _ true (a.all_pass refl k d l))))
    tested fs false a h = let q = a.one_fails refl in sym (list_all_at _ fs q.0 q.1 q.2 (rw q.3 (sym (h _ false q.4))))

-- The two tests that are asked for.
module _ (p : ℕ) (x : List ℕ) where
  pub all_tested : (fs : List Poly) → list_all (λ f. eqb (value_modulo p f x) 0) fs ≡ all_zero p x fs
  unfolding all_zero is_root
  all_tested [] = refl
  all_tested (f ∷ fs) = ap (λ b. eqb (value_modulo p f x) 0 && b) (all_tested fs)

  pub none_tested : (fs : List Poly) → list_all (λ f. not (eqb (value_modulo p f x) 0)) fs ≡ none_zero p x fs
  unfolding none_zero is_root
  none_tested [] = refl
  none_tested (f ∷ fs) = ap (λ b. not (eqb (value_modulo p f x) 0) && b) (none_tested fs)

-- The polynomials from index i on decide for all from the index `first` on, which record `from` holds.
pub record TestsLeft (T : ℕ → Bool → Type 0) (t : Table) (from first : ℕ) (x : List ℕ) (i : ℕ) : Type 0 where
  pub chain : HeadsLeft t.words.now t.modulus t.variables i
  pub decides : (fs : List Poly) → ArePolynomialsFrom t from first fs → (b : Bool) → TestsEach T t.modulus x chain.rest b → TestsEach T t.modulus x fs b

pub tests_start : {T : ℕ → Bool → Type 0} {t : Table} {from first : ℕ} {x : List ℕ} {fs : List Poly} → from < records t.words.now
    → ArePolynomialsFrom t from first fs → TestsLeft T t from first x first
tests_start {T} {t} {from} {first} {x} {fs} h e =
    record {
      chain = heads_left t.words.now t.modulus t.variables from first fs h e;
      decides = λ gs q b. subst (λ gs. TestsEach T t.modulus x gs b) (good_same (sym e ∙ q));
    }

module _ {T : ℕ → Bool → Type 0} {t : Table} {from first : ℕ} {x : List ℕ} {i : ℕ} (l : TestsLeft T t from first x i) where
  pub tests_end : i ≡ 0 → (fs : List Poly) → ArePolynomialsFrom t from first fs → TestsEach T t.modulus x fs true
  tests_end z fs e = l.decides fs e true (rw (chain_end l.chain z) none_fails)

  -- The polynomial with its head in record i.
  module _ (more : i ≢ 0) where
    head : Member l.chain
    head = chain_next l.chain more

    pub tests_inside : i < records t.words.now
    tests_inside = head.inside

    pub tests_read : (f : Poly) × IsPolynomialAt t i f
    tests_read = (head.member, head.is_read)

    pub tests_less : left (records t.words.now) (word t.words.now i 3) < left (records t.words.now) i
    tests_less = chain_less l.chain more

    -- v is its value.
    module _ {v : ℕ} (is_value : (f : Poly) → IsPolynomialAt t i f → v ≡ value_modulo t.modulus f x) where
      pub tests_next : T v true → TestsLeft T t from first x (word t.words.now i 3)
      unfolding head
      tests_next h =
          record {
            chain = chain_on l.chain more;
            decides = λ fs e b a. l.decides fs e b (rw head.parts (passes_on head.member (subst (λ v. T v true) (is_value head.member head.is_read) h) a));
          }

      pub tests_fail : T v false → (fs : List Poly) → ArePolynomialsFrom t from first fs → TestsEach T t.modulus x fs false
      tests_fail h fs e = l.decides fs e false (rw head.parts (fails_on head.member head.behind (subst (λ v. T v false) (is_value head.member head.is_read) h)))
