-- A written list, read again, holds the same systems in the same order.
use Rattle.std.specs.Prelude.{◌≡◌, Bool, true, false, not, eqb, take, drop}
use Rattle.std.proofs.Math.Path.{refl, ap, ap₂}
use Rattle.std.proofs.Common.{◌∙◌, eq-eqb, ne_eqb, le-leb}
use Rattle.std.proofs.Math.Bool.{◌&&◌, ◌||◌}
use mathlib.Core.List.{List, [], ◌∷◌, ◌++◌}
use Prim.Native.Nat.{ℕ, zero, suc, ◌+◌, ◌%◌, ◌≤◌, ◌<◌, Ordering}
use native.Mathlib.Omega.{arith}
use Rattle.std.proofs.lemmas.Bool.{lt-leb}
use Rattle.std.proofs.Math.Dec.{leb}
use Rattle.std.proofs.Math.ListN.{length}
use Rattle.tables.specs.laws.Accepted.{Falls}
use Rattle.residues.specs.Each.{Each}
use Rattle.residues.specs.Prime.{is_modulus}
use Rattle.residues.specs.laws.Prime.{prime_modulus}
use Rattle.polynomials.specs.Poly.{Term, Poly}
use Rattle.polynomials.specs.Canonical.{Canonical, All}
use Rattle.polynomials.specs.Division.{leader}
use Rattle.polynomials.specs.Packed.{word as pack, exponents}
use Rattle.tables.specs.Words.{word, records, is_whole, follow, term_at}
use Rattle.tables.specs.Read.{Read, good, then, unless, Before, first, after, not_zero, has_above, not_below}
use Rattle.tables.specs.Read.{System, Listing, read_term, read_terms, read_head, read_heads, read_triangle, read_system, read_systems, read_header, read_list}
use Rattle.tables.specs.declared.Reason.{Reason}
use Rattle.tables.specs.declared.Reason.TheVariants.{Shape, Prime, Variables, Coefficient, Exponent, Head, Order, Terms, Broken}
use Rattle.rules.specs.Room.{polynomials_size, systems_size}
use Rattle.rules.specs.Written.{index_of, terms_words, heads_words, system_words, systems_words, list_words, list_records}
use Rattle.tables.specs.Admissible.{Rising, Admissible, AdmissibleListing}
use Rattle.rules.specs.Writable.{Writable}
use Rattle.rules.proofs.laws.Stands.{Stands, Holds, stands_whole, first_record, stands_left, stands_right, link_reads}
use Rattle.rules.proofs.laws.Lengths.{length_terms, length_heads, length_systems, length_list, length_size, length_systems_size, length_system}
use Rattle.rules.proofs.laws.Held.{Held, held}

-- A test that does not refuse.
passes : {A : Type 0} (b : Bool) (why : Reason) (at : ℕ) (r : Read A) → b ≡ false → unless b why at r ≡ r
passes b why at r e = ap (λ c. unless c why at r) e

passes_not : {A : Type 0} (b : Bool) (why : Reason) (at : ℕ) (r : Read A) → b ≡ true → unless (not b) why at r ≡ r
passes_not b why at r e = ap (λ c. unless (not c) why at r) e

falls_below : (b : Before) (t : Term) (f : Poly) → Falls b (t ∷ f) → not_below t.exps b ≡ false
unfolding not_below
falls_below first t f h = refl
falls_below (after e) t f h = ap (λ (o : Ordering). elim o as (λ o. Bool) [ Ordering.lt ↦ false | Ordering.eq ↦ true | Ordering.gt ↦ true ]) h.0

module _ (w : List ℕ) (p n : ℕ) where
  -- ── a polynomial ──
  read_term_again : (m : ℕ) (b : Before) (i : ℕ) (t : Term) (f : Poly) → term_at w i ≡ t → m < 256 → Canonical p (t ∷ f) → has_above n t.exps ≡ false → Falls b (t ∷ f) →
      read_term w p n m b i ≡ good t
  unfolding read_term
  read_term_again m b i t f e few c h l =
      ap (λ (u : Term). unless (leb 256 m) Terms i (unless (eqb u.coef 0 || leb p u.coef) Coefficient i
      (unless (has_above n u.exps) Exponent i (unless (not_below u.exps b) Order i (good u))))) e
      ∙ passes (leb 256 m) Terms i _ (lt-leb 256 m few)
      ∙ passes (eqb t.coef 0 || leb p t.coef) Coefficient i _
      (ap₂ ◌||◌ (ne_eqb t.coef 0 (λ z. omega (arith, c.0))) (lt-leb p t.coef c.1))
      ∙ passes (has_above n t.exps) Exponent i _ h
      ∙ passes (not_below t.exps b) Order i _ (falls_below b t f l)

  read_terms_again : (f : Poly) (fuel m : ℕ) (b : Before) (at i : ℕ) → length f < fuel → m + length f ≤ 256 → Canonical p f → All (Held n) f → Falls b f → at < i →
      Stands w i (terms_words i f) → read_terms w p n fuel m b at (index_of f i) ≡ good f
  unfolding read_terms terms_words follow
  read_terms_again f zero m b at i long few c a l h s = absurd (omega arith)
  read_terms_again [] (suc fuel) m b at i long few c a l h s = refl
  read_terms_again (t ∷ f) (suc fuel) m b at i long few c a l h s =
      let r : Holds w i t.coef (pack (drop 4 t.exps)) (pack (take 4 t.exps)) (index_of f (suc i)) (terms_words (suc i) f) = first_record w i _ _ _ _ _ s in
      let e : exponents (word w i 1) (word w i 2) ≡ t.exps = ap₂ exponents r.word_1 r.word_2 ∙ a.0.0 in
      let back : term_at w i ≡ t = λ k. record { coef = r.word_0 k; exps = e k } in
      link_reads w (read_term w p n m b) (λ u j x. x) (λ u. read_terms w p n fuel (suc m) (after u.exps)) at i t f h r.inside
      (read_term_again m b i t f back (omega arith) c a.0.1 l)
      (ap (read_terms w p n fuel (suc m) (after t.exps) i) r.word_3
      ∙ read_terms_again f fuel (suc m) (after t.exps) i (suc i) (omega arith) (omega arith) c.3 a.1 c.2 (omega arith) r.behind)
      refl

  -- A head in record i, and its terms behind it.
  read_head_again : (i x : ℕ) (f : Poly) (y : List ℕ) → Admissible p n f → Stands w i (index_of f (suc i) ∷ 0 ∷ 0 ∷ x ∷ (terms_words (suc i) f ++ y)) → read_head w p n i ≡ good f
  unfolding read_head not_zero
  read_head_again i x f y a s =
      let r : Holds w i (index_of f (suc i)) 0 0 x (terms_words (suc i) f ++ y) = first_record w i _ _ _ _ _ s in
      let b : Stands w (suc i) (terms_words (suc i) f) = stands_left w (suc i) (terms_words (suc i) f) y r.behind in
      passes (not_zero (word w i 1 ∷ word w i 2 ∷ [])) Head i _ (ap₂ (λ u v. not_zero (u ∷ v ∷ [])) r.word_1 r.word_2)
      ∙ ap (read_terms w p n (records w) 0 first i) r.word_0
      ∙ read_terms_again f (records w) 0 first i (suc i) (omega (arith, b.within, length_terms (suc i) f)) (omega (arith, a.few)) a.canonical (held p n f a) tt (omega arith) b

  -- ── a chain of heads ──
  -- The next head stands behind a head's terms.
  pub next_head : (i : ℕ) (f : Poly) (fs : List Poly) → Stands w i (heads_words i (f ∷ fs)) →
      (i < records w) × (word w i 3 ≡ index_of fs (suc (i + length f))) × Stands w (suc (i + length f)) (heads_words (suc (i + length f)) fs)
  unfolding heads_words
  next_head i f fs s =
      let j = suc (i + length f) in
      let r : Holds w i (index_of f (suc i)) 0 0 (index_of fs j) (terms_words (suc i) f ++ heads_words j fs) = first_record w i _ _ _ _ _ s in
      (r.inside, r.word_3, stands_right w (suc i) (terms_words (suc i) f) (heads_words j fs) j (omega (arith, length_terms (suc i) f)) r.behind)

  read_heads_again : (fs : List Poly) (fuel at i : ℕ) → length fs < fuel → Each (Admissible p n) fs → at < i → Stands w i (heads_words i fs) →
      read_heads w p n fuel at (index_of fs i) ≡ good fs
  unfolding read_heads heads_words follow
  read_heads_again fs zero at i long a h s = absurd (omega arith)
  read_heads_again [] (suc fuel) at i long a h s = refl
  read_heads_again (f ∷ fs) (suc fuel) at i long a h s =
      let j = suc (i + length f) in
      let r = next_head i f fs s in
      link_reads w (read_head w p n) (λ g k x. x) (λ g. read_heads w p n fuel) at i f fs h r.0 (read_head_again i (index_of fs j) f (heads_words j fs) a.0 s)
      (ap (read_heads w p n fuel i) r.1 ∙ read_heads_again fs fuel i j (omega arith) a.1 (omega arith) r.2)
      refl

  -- As a chain of heads, where the leading variables rise.
  read_triangle_again : (fs : List Poly) (fuel last at i : ℕ) → length fs < fuel → Each (Admissible p n) fs → Rising last fs → at < i → Stands w i (heads_words i fs) →
      read_triangle w p n fuel last at (index_of fs i) ≡ good fs
  unfolding read_triangle heads_words follow
  read_triangle_again fs zero last at i long a u h s = absurd (omega arith)
  read_triangle_again [] (suc fuel) last at i long a u h s = refl
  read_triangle_again (f ∷ fs) (suc fuel) last at i long a u h s =
      let j = suc (i + length f) in
      let r = next_head i f fs s in
      link_reads w (read_head w p n) (λ g k x. unless (leb (leader g) last) Broken k x) (λ g. read_triangle w p n fuel (leader g)) at i f fs h r.0
      (read_head_again i (index_of fs j) f (heads_words j fs) a.0 s)
      (ap (read_triangle w p n fuel (leader f) i) r.1 ∙ read_triangle_again fs fuel (leader f) i j (omega arith) a.1 u.1 (omega arith) r.2)
      (passes (leb (leader f) last) Broken i _ (lt-leb (leader f) last u.0))

  -- ── the systems ──
  -- A chain that stands behind record 0 has fewer heads than the table has records.
  fewer_heads : (fs : List Poly) (i : ℕ) → 0 < i → Stands w i (heads_words i fs) → length fs < records w
  fewer_heads fs i h s = omega (arith, s.within, length_heads i fs, length_size fs)

  read_system_again : (i next : ℕ) (s : System) → Each (Admissible p n) s.T → Each (Admissible p n) s.U → Rising 0 s.T →
      Stands w i (system_words i next s) → read_system w p n i ≡ good s
  unfolding read_system
  read_system_again i next s a b u z =
      passes_not (eqb (word w i 2) 0) Broken i _ (eq-eqb (word w i 2) 0 r.word_2)
      ∙ ap₂ (λ x y. then x (λ t. then y (λ u. good (record { T = t; U = u }))))
      (ap (read_triangle w p n (records w) 0 i) r.word_0 ∙ read_triangle_again s.T (records w) 0 i (suc i) (fewer_heads s.T (suc i) (omega arith) ts) a u (omega arith) ts)
      (ap (read_heads w p n (records w) i) r.word_1 ∙ read_heads_again s.U (records w) i j (fewer_heads s.U j (omega arith) us) b (omega arith) us)
    where
      j : ℕ
      j = suc i + polynomials_size s.T

      r : Holds w i (index_of s.T (suc i)) (index_of s.U j) 0 next (heads_words (suc i) s.T ++ heads_words j s.U)
      r = first_record w i _ _ _ _ _ z

      ts : Stands w (suc i) (heads_words (suc i) s.T)
      ts = stands_left w (suc i) (heads_words (suc i) s.T) _ r.behind

      us : Stands w j (heads_words j s.U)
      us = stands_right w (suc i) (heads_words (suc i) s.T) _ j (omega (arith, length_heads (suc i) s.T)) r.behind

  -- The next system stands behind a system's two chains.
  pub next_system : (i : ℕ) (s : System) (ss : List System) → Stands w i (systems_words i (s ∷ ss)) →
      (i < records w) × (word w i 3 ≡ index_of ss (i + systems_size (s ∷ []))) × (i < i + systems_size (s ∷ []))
      × Stands w (i + systems_size (s ∷ [])) (systems_words (i + systems_size (s ∷ [])) ss)
  unfolding systems_words systems_size
  next_system i s ss z =
      let k = i + systems_size (s ∷ []) in
      let S = system_words i (index_of ss k) s in
      let r = first_record w i _ _ _ _ _ (stands_left w i S (systems_words k ss) z) in
      (r.inside, r.word_3, omega arith, stands_right w i S (systems_words k ss) k (omega (arith, length_system i (index_of ss k) s)) z)

  read_systems_again : (ss : List System) (fuel at i : ℕ) → length ss < fuel → Each (λ s. Each (Admissible p n) s.T) ss → Each (λ s. Each (Admissible p n) s.U) ss →
      Each (λ s. Rising 0 s.T) ss → at < i → Stands w i (systems_words i ss) → read_systems w p n fuel at (index_of ss i) ≡ good ss
  unfolding read_systems systems_words follow
  read_systems_again ss zero at i long a b u h z = absurd (omega arith)
  read_systems_again [] (suc fuel) at i long a b u h z = refl
  read_systems_again (s ∷ ss) (suc fuel) at i long a b u h z =
      let r = next_system i s ss z in
      link_reads w (read_system w p n) (λ t k x. x) (λ t. read_systems w p n fuel) at i s ss h r.0 (read_system_again i _ s a.0 b.0 u.0 (stands_left w i (system_words i _ s) _ z))
      (ap (read_systems w p n fuel i) r.1 ∙ read_systems_again ss fuel i (i + systems_size (s ∷ [])) (omega arith) a.1 b.1 u.1 r.2 r.3)
      refl

-- ── the list ──
module _ (l : Listing) (h : Writable l) where
  a : AdmissibleListing l
  a = h.admissible

  whole : is_whole (list_words l) ≡ true
  unfolding is_whole list_records
  whole =
      ap₂ ◌&&◌ (eq-eqb (length (list_words l) % 4) 0 (omega (arith, length_list l)))
      (ap₂ ◌&&◌ (le-leb 1 (records (list_words l)) (omega (arith, length_list l))) (le-leb (records (list_words l)) 65536 (omega (arith, length_list l, h.few_records))))

  read_systems_list : read_systems (list_words l) l.modulus l.variables (records (list_words l)) 0 (index_of l.systems 1) ≡ good l.systems
  unfolding list_words
  read_systems_list =
      read_systems_again (list_words l) l.modulus l.variables l.systems (records (list_words l)) 0 1
      (omega (arith, length_systems 1 l.systems, length_systems_size l.systems))
      a.triangular a.companion a.rising (omega arith) (first_record (list_words l) 0 _ _ _ _ _ (stands_whole (list_words l))).behind

  pub read_again : read_list (list_words l) ≡ good l
  unfolding read_list read_header list_words
  read_again =
      passes_not (is_whole (list_words l)) Shape 0 _ whole
      ∙ passes_not (is_modulus l.modulus) Prime 0 _ (prime_modulus l.modulus a.numbers.prime a.numbers.below)
      ∙ passes_not (leb 1 l.variables && leb l.variables 8) Variables 0 _
      (ap₂ ◌&&◌ (le-leb 1 l.variables a.numbers.some_variable) (le-leb l.variables 8 a.numbers.eight_variables))
      ∙ ap (λ r. then r (λ ss. unless (not (eqb (length ss) (length l.systems))) Broken 0 (good (record { modulus = l.modulus; variables = l.variables; systems = ss })))) read_systems_list
      ∙ passes_not (eqb (length l.systems) (length l.systems)) Broken 0 _ (eq-eqb (length l.systems) (length l.systems) refl)
