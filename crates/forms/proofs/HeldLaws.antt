-- The tests `is_held`, `words_are_held` and `equal`, term by term.
use Rattle.std.specs.Prelude.{◌≡◌, refl, List, [], ◌∷◌, Bool, true, false, ◌&&◌, eqb, leb, ltb, ℕ, ◌^◌, ◌≤◌, ◌<◌, ◌≢◌, length, drop, get_or, ◌+◌, ◌*◌, ◌%◌}
use Prim.Native.Nat.{compare, Ordering}
use Rattle.std.proofs.Common.{sym, ◌∙◌, ap, ap₂, arith, lt-ltb, le-ltb, le-leb, eq-eqb, ne_eqb, leb-true, eqb-true}
use Rattle.std.proofs.lemmas.Bool.{lt-leb}
use Rattle.std.proofs.Math.Bool.{and-false, and-eq-true_iff}
use Rattle.std.proofs.Math.Dec.{compare_is_eq}
use Rattle.std.specs.List.{list_all, zip}
use Rattle.polynomials.specs.Poly.{Poly, order, equal}
use Rattle.polynomials.specs.Packed.{bytes, term, terms}
use Rattle.polynomials.specs.Working.{Holds, falls, is_canonical, is_held}
use Rattle.polynomials.specs.declared.Term.{Term as Packed}
use Rattle.polynomials.specs.laws.Order.{Says, compare_says}
use Rattle.polynomials.specs.laws.Packed.{order_bytes}
use Rattle.polynomials.specs.laws.Equal.{unequal}
use Rattle.polynomials.specs.laws.Held.{holds_of_test, test_of_holds}
use Rattle.polynomials.specs.laws.Terms.{length_terms, terms_at}
use Rattle.forms.specs.Words.{paired, words_are_held}

-- ── a monomial and the terms behind it ──
pub above_none : (m : ℕ) (s : List Packed) → length s ≡ 0 → falls (bytes 8 m) (terms s) ≡ true
unfolding falls terms
above_none m [] h = refl
above_none m (t ∷ s) h = absurd (omega arith)

pub above_first : (m : ℕ) (s : List Packed) (d : Packed) → 0 < length s → m < 256 ^ 8 → (get_or s 0 d).monomial < 256 ^ 8 → ltb (get_or s 0 d).monomial m ≡ falls (bytes 8 m) (terms s)
unfolding falls terms
above_first m [] d h k l = absurd (omega arith)
above_first m (t ∷ s) d h k l =
    by (compare t.monomial m) (compare_says t.monomial m)
    ∙ sym (ap (λ o. elim o as (λ o. Bool) [ Ordering.lt ↦ true | Ordering.eq ↦ false | Ordering.gt ↦ false ]) (order_bytes 8 t.monomial m l k))
  where
    by : (o : Ordering) → Says o t.monomial m → ltb t.monomial m ≡ elim o [ Ordering.lt ↦ true | Ordering.eq ↦ false | Ordering.gt ↦ false ]
    by Ordering.lt q = lt-ltb t.monomial m q
    by Ordering.eq q = le-ltb t.monomial m (omega arith)
    by Ordering.gt q = le-ltb t.monomial m (omega arith)

-- ── the loop that tests ──
pub refused_long : (p : ℕ) (s : List Packed) → 256 < length s → false ≡ is_held p s
unfolding is_held
refused_long p s h = sym (ap (λ b. b && is_canonical p (terms s)) (lt-leb (length s) 256 h))

pub tested_terms : (p : ℕ) (s : List Packed) → length s ≤ 256 → is_canonical p (terms s) ≡ is_held p s
unfolding is_held
tested_terms p s h = sym (ap (λ b. b && is_canonical p (terms s)) (le-leb (length s) 256 h))

pub passed_all : (p : ℕ) (f rest : List Packed) → is_canonical p (terms rest) ≡ is_held p f → length rest < 1 → true ≡ is_held p f
unfolding is_canonical terms
passed_all p f [] kept h = kept
passed_all p f (t ∷ rest) kept h = absurd (omega arith)

-- The test of the terms that are left is the test of all; the first of them, c·m, is tested before those behind it.
pub record Opened (p : ℕ) (whole : Bool) (c m : ℕ) (behind : Poly) : Type 0 where
  pub is : whole ≡ (leb 1 c && (ltb c p && (falls (bytes 8 m) behind && is_canonical p behind)))

pub opened : (p : ℕ) {whole : Bool} (rest : List Packed) (d : Packed) (behind : List Packed) → is_canonical p (terms rest) ≡ whole → 1 ≤ length rest → behind ≡ drop 1 rest
    → Opened p whole (get_or rest 0 d).coefficient (get_or rest 0 d).monomial (terms behind)
unfolding is_canonical
opened p rest d behind kept more is =
    let t = get_or rest 0 d in
    record {
      is = sym kept ∙ ap (is_canonical p) (terms_at rest 0 d more)
          ∙ ap (λ s. leb 1 t.coefficient && (ltb t.coefficient p && (falls (bytes 8 t.monomial) (terms s) && is_canonical p (terms s)))) (sym is);
    }

module _ {p : ℕ} {whole : Bool} {c m : ℕ} {behind : Poly} (o : Opened p whole c m behind) where
  pub refused_zero : c ≡ 0 → false ≡ whole
  refused_zero h = sym (rw (o.is, lt-leb 1 c (omega arith)))

  pub refused_residue : p ≤ c → false ≡ whole
  refused_residue h = sym (rw (o.is, le-ltb c p h, and-false))

  pub refused_rising : false ≡ falls (bytes 8 m) behind → false ≡ whole
  refused_rising h = sym (rw (o.is, sym h, and-false (ltb c p), and-false (leb 1 c)))

  pub passed : c ≢ 0 → c < p → true ≡ falls (bytes 8 m) behind → is_canonical p behind ≡ whole
  passed n h e = sym (rw (o.is, le-leb 1 c (omega arith), lt-ltb c p h, sym e))

-- ── pairs of words ──
pub above_no_pair : (m : ℕ) (s : List ℕ) → length s < 2 → falls (bytes 8 m) (terms (paired s)) ≡ true
unfolding falls terms paired
above_no_pair m [] h = refl
above_no_pair m (c ∷ []) h = refl
above_no_pair m (c ∷ (n ∷ s)) h = absurd (omega arith)

pub above_pair : (m : ℕ) (s : List ℕ) → 2 ≤ length s → m < 256 ^ 8 → get_or s 1 0 < 256 ^ 8 → ltb (get_or s 1 0) m ≡ falls (bytes 8 m) (terms (paired s))
unfolding paired
above_pair m [] h k l = absurd (omega arith)
above_pair m (c ∷ []) h k l = absurd (omega arith)
above_pair m (c ∷ (n ∷ s)) h k l = above_first m (paired (c ∷ (n ∷ s))) (record { coefficient = c; monomial = n }) (omega arith) k l

paired_at : (s : List ℕ) → 2 ≤ length s → paired s ≡ record { coefficient = get_or s 0 0; monomial = get_or s 1 0 } ∷ paired (drop 2 s)
unfolding paired
paired_at [] h = absurd (omega arith)
paired_at (c ∷ []) h = absurd (omega arith)
paired_at (c ∷ (m ∷ s)) h = refl

pub opened_pair : (p : ℕ) {whole : Bool} (rest behind : List ℕ) → is_canonical p (terms (paired rest)) ≡ whole → 2 ≤ length rest → behind ≡ drop 2 rest
    → Opened p whole (get_or rest 0 0) (get_or rest 1 0) (terms (paired behind))
unfolding is_canonical terms
opened_pair p rest behind kept more is =
    let c = get_or rest 0 0 in
    record {
      is = sym kept ∙ ap (λ s. is_canonical p (terms s)) (paired_at rest more)
          ∙ ap (λ s. leb 1 c && (ltb c p && (falls (bytes 8 (get_or rest 1 0)) (terms (paired s)) && is_canonical p (terms (paired s))))) (sym is);
    }

pub refused_odd : (p : ℕ) (s : List ℕ) → length s % 2 ≡ 1 → false ≡ words_are_held p s
unfolding words_are_held
refused_odd p s h = sym (ap (λ b. b && (leb (length s) 512 && is_canonical p (terms (paired s)))) (ne_eqb (length s % 2) 0 (λ e. omega arith)))

pub refused_long_words : (p : ℕ) (s : List ℕ) → 512 < length s → false ≡ words_are_held p s
unfolding words_are_held
refused_long_words p s h = sym (ap (λ b. eqb (length s % 2) 0 && (b && is_canonical p (terms (paired s)))) (lt-leb (length s) 512 h) ∙ and-false (eqb (length s % 2) 0))

pub tested_words : (p : ℕ) (s : List ℕ) → length s % 2 ≡ 0 → length s ≤ 512 → is_canonical p (terms (paired s)) ≡ words_are_held p s
unfolding words_are_held
tested_words p s h k = sym (ap₂ (λ a b. a && (b && is_canonical p (terms (paired s)))) (eq-eqb (length s % 2) 0 h) (le-leb (length s) 512 k))

pub passed_all_words : (p : ℕ) (s rest : List ℕ) → is_canonical p (terms (paired rest)) ≡ words_are_held p s → length rest < 2 → true ≡ words_are_held p s
unfolding is_canonical terms paired
passed_all_words p s [] kept h = kept
passed_all_words p s (c ∷ []) kept h = kept
passed_all_words p s (c ∷ (m ∷ rest)) kept h = absurd (omega arith)

pub length_paired : (s : List ℕ) → length s ≡ 2 * length (paired s) + length s % 2
unfolding paired
length_paired [] = refl
length_paired (c ∷ []) = refl
length_paired (c ∷ (m ∷ s)) = omega (arith, length_paired s)

-- The test is true exactly where the words are pairs, and their terms a canonical polynomial of at most 256 terms.
pub holds_of_words : (p : ℕ) (s : List ℕ) → words_are_held p s ≡ true → (length s % 2 ≡ 0) × Holds p (paired s)
unfolding words_are_held is_held
holds_of_words p s h =
    let h₁ = (and-eq-true_iff (eqb (length s % 2) 0) (leb (length s) 512 && is_canonical p (terms (paired s)))).0 h in
    let h₂ = (and-eq-true_iff (leb (length s) 512) (is_canonical p (terms (paired s)))).0 h₁.1 in
    let few : length (paired s) ≤ 256 = omega (arith, length_paired s, leb-true (length s) 512 h₂.0) in
    (eqb-true (length s % 2) 0 h₁.0, holds_of_test p (paired s) (ap₂ ◌&&◌ (le-leb (length (paired s)) 256 few) h₂.1))

pub words_of_holds : (p : ℕ) (s : List ℕ) → length s % 2 ≡ 0 → Holds p (paired s) → words_are_held p s ≡ true
unfolding is_held
words_of_holds p s e h =
    let few : length s ≤ 512 = omega (arith, length_paired s, h.few) in
    let q : is_canonical p (terms (paired s)) ≡ true = ((and-eq-true_iff (leb (length (paired s)) 256) (is_canonical p (terms (paired s)))).0 (test_of_holds p (paired s) h)).1 in
    sym (tested_words p s e few) ∙ q

-- ── equality ──
pub same_terms : (t u : Packed) → t.monomial < 256 ^ 8 → u.monomial < 256 ^ 8 → (eqb t.coefficient u.coefficient && eqb t.monomial u.monomial) ≡ equal (term t ∷ []) (term u ∷ [])
unfolding equal
same_terms t u h k =
    ap (λ b. eqb t.coefficient u.coefficient && b)
    (by (compare t.monomial u.monomial) (compare_says t.monomial u.monomial) ∙ sym (ap (λ o. compare_is_eq o && true) (order_bytes 8 t.monomial u.monomial h k)))
  where
    by : (o : Ordering) → Says o t.monomial u.monomial → eqb t.monomial u.monomial ≡ (compare_is_eq o && true)
    by Ordering.lt q = ne_eqb t.monomial u.monomial (λ e. omega arith)
    by Ordering.eq q = eq-eqb t.monomial u.monomial q
    by Ordering.gt q = ne_eqb t.monomial u.monomial (λ e. omega arith)

abbrev pub alike : Packed × Packed → Bool
alike p = equal (term p.0 ∷ []) (term p.1 ∷ [])

pub equal_pairs : (f g : List Packed) → length f ≡ length g → list_all alike (zip f g) ≡ equal (terms f) (terms g)
unfolding equal terms
equal_pairs [] [] h = refl
equal_pairs [] (u ∷ g) h = absurd (omega arith)
equal_pairs (t ∷ f) [] h = absurd (omega arith)
equal_pairs (t ∷ f) (u ∷ g) h =
    go (eqb t.coefficient u.coefficient) (compare_is_eq (order (bytes 8 t.monomial) (bytes 8 u.monomial))) (list_all alike (zip f g)) (equal (terms f) (terms g))
    (equal_pairs f g (omega arith))
  where
    go : (a b c d : Bool) → c ≡ d → ((a && (b && true)) && c) ≡ (a && (b && d))
    go true true c d e = e
    go true false c d e = refl
    go false b c d e = refl

pub other_lengths : (f g : List Packed) → length f ≢ length g → eqb (length f) (length g) ≡ equal (terms f) (terms g)
other_lengths f g n =
    ne_eqb (length f) (length g) n ∙ sym (unequal (terms f) (terms g) (λ e. n (sym (length_terms f) ∙ ap length e ∙ length_terms g)))
