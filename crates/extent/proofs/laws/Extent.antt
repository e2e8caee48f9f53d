-- Of a written list, whatever follows it, the extent is the records that the list needs.
use Rattle.std.specs.Prelude.{◌≡◌, refl, true, false, List, [], ◌∷◌, ◌++◌, ℕ, zero, suc, ◌+◌, ◌≤◌, ◌<◌, length}
use Rattle.std.proofs.Common.{ap, ◌∙◌, arith, eq-eqb, ne_eqb, le-ltb}
use Rattle.polynomials.specs.Poly.{Poly}
use Rattle.tables.specs.Words.{word, records, follow, Followed, end, to, astray}
use Rattle.tables.specs.Read.{System, Listing}
use Rattle.rules.specs.Room.{polynomials_size, systems_size}
use Rattle.rules.specs.Written.{index_of, terms_words, heads_words, system_words, systems_words, list_words, list_records}
use Rattle.rules.proofs.laws.Lengths.{length_terms, length_heads, length_systems, length_size, length_systems_size}
use Rattle.tables.specs.laws.Chains.{follow_to}
use Rattle.rules.proofs.laws.Stands.{Stands, Holds, stands_whole, first_record, stands_left, stands_right}
use Rattle.rules.proofs.laws.ReadAgain.{next_head, next_system}
use Rattle.extent.specs.Extent.{chain, chain_last, behind, system_last, list_last, extent}

module _ (w : List ℕ) where
  -- ── chains ──
  chain_ends : (fuel at : ℕ) → chain w fuel at 0 ≡ at
  unfolding chain follow
  chain_ends zero at = refl
  chain_ends (suc fuel) at = refl

  pub chain_follows : (fuel at i : ℕ) {f : Followed} → follow w at i ≡ f → chain w (suc fuel) at i ≡ elim f [ end ↦ at | to j ↦ chain w fuel j (word w j 3) | astray ↦ at ]
  unfolding chain
  chain_follows fuel at i e = ap (λ (f : Followed). elim f as (λ f. ℕ) [ end ↦ at | to j ↦ chain w fuel j (word w j 3) | astray ↦ at ]) e

  chain_goes : (fuel at i : ℕ) → at < i → i < records w → chain w (suc fuel) at i ≡ chain w fuel i (word w i 3)
  chain_goes fuel at i h k = chain_follows fuel at i (follow_to w at i h k)

  -- The terms behind record `at`.
  terms_end : (f : Poly) (fuel at : ℕ) → length f ≤ fuel → Stands w (suc at) (terms_words (suc at) f) → chain w fuel at (index_of f (suc at)) ≡ at + length f
  unfolding terms_words
  terms_end [] fuel at l s = chain_ends fuel at ∙ omega arith
  terms_end (t ∷ f) zero at l s = absurd (omega arith)
  terms_end (t ∷ f) (suc fuel) at l s =
      let r = first_record w (suc at) _ _ _ _ (terms_words (suc (suc at)) f) s in
      chain_goes fuel at (suc at) (omega arith) r.inside
      ∙ ap (chain w fuel (suc at)) r.word_3
      ∙ terms_end f fuel (suc at) (omega arith) r.behind
      ∙ omega arith

  -- ── heads ──
  -- A chain from record i on ends at a head whose terms reach up to record `stop`.
  record LastHead (i reached stop : ℕ) : Type 0 where
    head : ℕ
    from : i ≤ head
    poly : Poly
    is : reached ≡ head
    stands : Stands w head (heads_words head (poly ∷ []))
    size : suc (head + length poly) ≡ stop

  heads_end : (f : Poly) (fs : List Poly) (fuel at i : ℕ) → length fs < fuel → at < i → Stands w i (heads_words i (f ∷ fs)) → LastHead i (chain w fuel at i) (i + polynomials_size (f ∷ fs))
  unfolding polynomials_size
  heads_end f fs zero at i l h s = absurd (omega arith)
  heads_end f [] (suc fuel) at i l h s =
      let r = next_head w 0 0 i f [] s in
      record {
        head = i;
        from = omega arith;
        poly = f;
        is = chain_goes fuel at i h r.0 ∙ ap (chain w fuel i) r.1 ∙ chain_ends fuel i;
        stands = s;
        size = omega arith;
      }
  heads_end f (g ∷ fs) (suc fuel) at i l h s =
      let r = next_head w 0 0 i f (g ∷ fs) s in
      let z = heads_end g fs fuel i (suc (i + length f)) (omega arith) (omega arith) r.2 in
      record {
        head = z.head;
        from = omega (arith, z.from);
        poly = z.poly;
        is = chain_goes fuel at i h r.0 ∙ ap (chain w fuel i) r.1 ∙ z.is;
        stands = z.stands;
        size = omega (arith, z.size);
      }

  -- The last term of the last head.
  head_end : (h : ℕ) (f : Poly) → Stands w h (heads_words h (f ∷ [])) → chain_last w h 0 ≡ h + length f
  unfolding heads_words
  head_end h f s =
      let r = first_record w h _ _ _ _ (terms_words (suc h) f ++ []) s in
      let b = stands_left w (suc h) (terms_words (suc h) f) [] r.behind in
      ap (chain w (records w) h) r.word_0 ∙ terms_end f (records w) h (omega (arith, b.within, length_terms (suc h) f)) b

  -- A chain with a head, and one without.
  behind_some : (s h none : ℕ) → (h ≡ s → ⊥) → behind w s h none ≡ chain_last w h 0
  unfolding behind
  behind_some s h none n = ap (λ b. elim b as (λ b. ℕ) [ true ↦ none | false ↦ chain_last w h 0 ]) (ne_eqb h s n)

  behind_none : (s h none : ℕ) → h ≡ s → behind w s h none ≡ none
  unfolding behind
  behind_none s h none e = ap (λ b. elim b as (λ b. ℕ) [ true ↦ none | false ↦ chain_last w h 0 ]) (eq-eqb h s e)

  behind_head : (s none : ℕ) {j k stop : ℕ} → s < j → LastHead j k stop → suc (behind w s k none) ≡ stop
  behind_head s none {k = k} h r =
      ap suc (behind_some s k none (λ q. omega (arith, r.is, r.from)))
      ∙ ap (λ (i : ℕ). suc (chain_last w i 0)) r.is
      ∙ ap suc (head_end r.head r.poly r.stands)
      ∙ r.size

  -- What stands last in a chain of heads from record j on, which record s starts.
  behind_end : (s j : ℕ) (fs : List Poly) (none : ℕ) → s < j → Stands w j (heads_words j fs) → suc none ≡ j → suc (behind w s (chain w (records w) s (index_of fs j)) none) ≡ j + polynomials_size fs
  unfolding polynomials_size
  behind_end s j [] none h z e = ap suc (behind_none s (chain w (records w) s 0) none (chain_ends (records w) s)) ∙ omega arith
  behind_end s j (f ∷ fs) none h z e =
      behind_head s none h (heads_end f fs (records w) s j (omega (arith, z.within, length_heads j (f ∷ fs), length_size (f ∷ fs))) h z)

  -- ── systems ──
  -- The chain ends at a system that reaches up to record `stop`.
  record LastSystem (i reached stop : ℕ) : Type 0 where
    at : ℕ
    system : System
    from : i ≤ at
    is : reached ≡ at
    stands : Stands w at (systems_words at (system ∷ []))
    size : at + systems_size (system ∷ []) ≡ stop

  systems_end : (x : System) (xs : List System) (fuel at i : ℕ) → length xs < fuel → at < i → Stands w i (systems_words i (x ∷ xs)) → LastSystem i (chain w fuel at i) (i + systems_size (x ∷ xs))
  unfolding systems_size
  systems_end x xs zero at i l h s = absurd (omega arith)
  systems_end x [] (suc fuel) at i l h s =
      let r = next_system w 0 0 i x [] s in
      record {
        at = i;
        system = x;
        from = omega arith;
        is = chain_goes fuel at i h r.0 ∙ ap (chain w fuel i) r.1 ∙ chain_ends fuel i;
        stands = s;
        size = refl;
      }
  systems_end x (y ∷ xs) (suc fuel) at i l h s =
      let r = next_system w 0 0 i x (y ∷ xs) s in
      let z = systems_end y xs fuel i (i + systems_size (x ∷ [])) (omega arith) r.2 r.3 in
      record {
        at = z.at;
        system = z.system;
        from = omega (arith, z.from);
        is = chain_goes fuel at i h r.0 ∙ ap (chain w fuel i) r.1 ∙ z.is;
        stands = z.stands;
        size = z.size ∙ omega arith;
      }

  system_end : (i : ℕ) (x : System) → Stands w i (systems_words i (x ∷ [])) → suc (system_last w i) ≡ i + systems_size (x ∷ [])
  unfolding systems_words systems_size
  system_end i x s =
      let j = suc i + polynomials_size x.T in
      let r = first_record w i _ _ _ _ (heads_words (suc i) x.T ++ heads_words j x.U) (stands_left w i (system_words i 0 x) [] s) in
      let ts = stands_left w (suc i) (heads_words (suc i) x.T) _ r.behind in
      let us = stands_right w (suc i) (heads_words (suc i) x.T) _ j (omega (arith, length_heads (suc i) x.T)) r.behind in
      let t = behind_end i (suc i) x.T i (omega arith) ts refl in
      ap (λ (k : ℕ). suc (behind w i (chain w (records w) i k) (behind w i (chain_last w i 0) i))) r.word_1
      ∙ behind_end i j x.U (behind w i (chain_last w i 0) i) (omega arith) us (ap (λ (k : ℕ). suc (behind w i (chain w (records w) i k) i)) r.word_0 ∙ t)
      ∙ omega arith

  list_last_some : (s : ℕ) → (s ≡ 0 → ⊥) → list_last w s ≡ system_last w s
  list_last_some s n = ap (λ b. elim b as (λ b. ℕ) [ true ↦ 0 | false ↦ system_last w s ]) (ne_eqb s 0 n)

  list_system : {k stop : ℕ} → LastSystem 1 k stop → suc (list_last w k) ≡ stop
  list_system {k} r =
      ap suc (list_last_some k (λ q. omega (arith, r.is, r.from)))
      ∙ ap (λ (i : ℕ). suc (system_last w i)) r.is
      ∙ system_end r.at r.system r.stands
      ∙ r.size

  list_end : (ss : List System) → word w 0 2 ≡ index_of ss 1 → Stands w 1 (systems_words 1 ss) → suc (list_last w (chain_last w 0 2)) ≡ 1 + systems_size ss
  unfolding systems_size
  list_end [] e s = ap (λ (k : ℕ). suc (list_last w k)) (ap (chain w (records w) 0) e ∙ chain_ends (records w) 0)
  list_end (x ∷ xs) e s =
      ap (λ (k : ℕ). suc (list_last w k)) (ap (chain w (records w) 0) e)
      ∙ list_system (systems_end x xs (records w) 0 1 (omega (arith, s.within, length_systems 1 (x ∷ xs), length_systems_size (x ∷ xs))) (omega arith) s)

  -- ── the list ──
  extent_some : 4 ≤ length w → extent w ≡ suc (list_last w (chain_last w 0 2))
  unfolding extent
  extent_some h = ap (λ b. elim b as (λ b. ℕ) [ true ↦ 0 | false ↦ suc (list_last w (chain_last w 0 2)) ]) (le-ltb (length w) 4 h)

pub extent_of_list : (l : Listing) (rest : List ℕ) → extent (list_words l ++ rest) ≡ list_records l.systems
unfolding list_words list_records
extent_of_list l rest =
    let w = list_words l ++ rest in
    let h : Holds w 0 l.modulus l.variables (index_of l.systems 1) (length l.systems) (systems_words 1 l.systems) =
    first_record w 0 _ _ _ _ _ (stands_left w 0 (list_words l) rest (stands_whole w)) in
    extent_some w (omega (arith, h.inside))
    ∙ list_end w l.systems h.word_2 h.behind
