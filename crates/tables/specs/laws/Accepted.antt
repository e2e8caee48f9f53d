-- What is accepted is admissible: the numbers, the polynomials and the order of its systems.
use Rattle.std.specs.Prelude.{◌≡◌, refl, Bool, true, false, List, [], ◌∷◌, ◌++◌, eqb, length, get_or, drop}
use Rattle.std.proofs.Common.{sym, ◌∙◌, ap, subst, true≢false, arith, eqb-true, get_or-drop}
use Prim.Native.Nat.{ℕ, zero, suc, ◌+◌, ◌-◌, ◌≤◌, ◌<◌, Ordering}
use Rattle.residues.specs.Each.{Each}
use Rattle.residues.specs.laws.Prime.{modulus_prime}
use Rattle.polynomials.specs.Poly.{Exponents, Term, Poly, order}
use Rattle.polynomials.specs.Canonical.{Under, Canonical, All}
use Rattle.polynomials.specs.Packed.{bytes, exponents}
use Rattle.polynomials.specs.laws.Packed.{byte_small}
use Rattle.polynomials.specs.laws.Canonical.{under_trans}
use Rattle.tables.specs.declared.Reason.TheVariants.{Broken}
use Rattle.tables.specs.Words.{word, records}
use Rattle.tables.specs.Read.{good, Before, first, after, not_zero, has_above, not_below, Input, System, Listing}
use Rattle.tables.specs.Read.{read_term, read_head, read_heads, read_triangle, read_system, read_systems, read_table, read_list}
use Rattle.tables.specs.Walk.{Readable}
use Rattle.tables.specs.Admissible.{Rising, Admissible, AdmissibleNumbers, AdmissibleInput, AdmissibleListing}
use Rattle.tables.specs.laws.Chains.{unless_not_good, then_good, header_read, whole_records, term_read}
use Rattle.tables.specs.laws.Linked.{good_same, linked_each, TermChain, terms_left, HeadChain, heads_left, triangle_linked, systems_left}

-- ── exponents ──
small_append : (s t : Exponents) → ((k : ℕ) → get_or s k 0 < 256) → ((k : ℕ) → get_or t k 0 < 256) → (k : ℕ) → get_or (s ++ t) k 0 ≤ 255
small_append [] t hs ht k = omega (arith, ht k)
small_append (x ∷ s) t hs ht zero = omega (arith, hs 0)
small_append (x ∷ s) t hs ht (suc k) = small_append s t (λ j. hs (suc j)) ht k

-- A term's two words hold eight exponents of 0 to 255.
exponents_small : (hi lo k : ℕ) → get_or (exponents hi lo) k 0 ≤ 255
unfolding exponents
exponents_small hi lo = small_append (bytes 4 lo) (bytes 4 hi) (byte_small 4 lo) (byte_small 4 hi)

exponents_eight : (hi lo : ℕ) → length (exponents hi lo) ≡ 8
unfolding exponents bytes
exponents_eight hi lo = refl

zero_places : (e : Exponents) → not_zero e ≡ false → (k : ℕ) → get_or e k 0 ≡ 0
unfolding not_zero
zero_places [] h k = refl
zero_places (m ∷ e) h k = go (zero_places e) (eqb m 0) (eqb-true m 0) h k
  where
    go : (not_zero e ≡ false → (k : ℕ) → get_or e k 0 ≡ 0) → (b : Bool) → (b ≡ true → m ≡ 0) → elim b as (λ b. Bool) [ true ↦ not_zero e | false ↦ true ] ≡ false → (k : ℕ) → get_or (m ∷ e) k 0 ≡ 0
    go ih true z h zero = z refl
    go ih true z h (suc k) = ih h k
    go ih false z h k = absurd (true≢false h)

absent_above : (n : ℕ) (e : Exponents) → has_above n e ≡ false → (k : ℕ) → n ≤ k → get_or e k 0 ≡ 0
unfolding has_above
absent_above n e h k l =
    ap (λ (j : ℕ). get_or e j 0) (omega arith) ∙ sym (get_or-drop n e (k - n) 0) ∙ zero_places (drop n e) h (k - n)

-- ── terms ──
-- All of f is below the term before it.
abbrev pub Falls : Before → Poly → Type 0
Falls first f = Unit {0}
Falls (after e) f = Under e f

not_below_false : (e b : Exponents) → not_below e (after b) ≡ false → order e b ≡ Ordering.lt
unfolding not_below
not_below_false e b = go (order e b)
  where
    go : (o : Ordering) → elim o as (λ o. Bool) [ Ordering.lt ↦ false | Ordering.eq ↦ true | Ordering.gt ↦ true ] ≡ false → o ≡ Ordering.lt
    go Ordering.lt h = refl
    go Ordering.eq h = absurd (true≢false h)
    go Ordering.gt h = absurd (true≢false h)

module _ (w : List ℕ) (p n : ℕ) where
  term_facts : (m : ℕ) (b : Before) (i : ℕ) (t : Term) → read_term w p n m b i ≡ good t → (1 ≤ t.coef) × (t.coef < p) × (not_below t.exps b ≡ false)
  term_facts m b i t e =
      let r = term_read w p n e in
      let c : word w i 0 ≡ 0 → ⊥ = r.some in
      subst (λ (u : Term). (1 ≤ u.coef) × (u.coef < p) × (not_below u.exps b ≡ false)) (sym r.is) (omega (arith, c), r.residue, r.falls)

  chain_canonical : (m : ℕ) (b : Before) (at i : ℕ) (f : Poly) → TermChain w p n (m, b) at i f → Canonical p f × Falls b f
  chain_canonical m first at i [] l = (tt, tt)
  chain_canonical m (after e) at i [] l = (tt, tt)
  chain_canonical m b at i (t ∷ f) l =
      let r = term_facts m b i t l.2 in
      let k = chain_canonical (suc m) (after t.exps) i (word w i 3) f l.3 in
      ((r.0, r.1, k.1, k.0), falls b r.2 k.1)
    where
      falls : (b : Before) → not_below t.exps b ≡ false → Under t.exps f → Falls b (t ∷ f)
      falls first h u = tt
      falls (after e) h u = let o = not_below_false t.exps e h in (o, under_trans t.exps e o f u)

  chain_few : (m : ℕ) (b : Before) (at i : ℕ) (f : Poly) → m ≤ 256 → TermChain w p n (m, b) at i f → m + length f ≤ 256
  chain_few m b at i [] h l = omega arith
  chain_few m b at i (t ∷ f) h l =
      omega (arith, chain_few (suc m) (after t.exps) i (word w i 3) f (term_read w p n l.2).few l.3)

  chain_all : (P : Exponents → Type 0) → ((hi lo : ℕ) → has_above n (exponents hi lo) ≡ false → P (exponents hi lo)) →
      (m : ℕ) (b : Before) (at i : ℕ) (f : Poly) → TermChain w p n (m, b) at i f → All P f
  chain_all P h m b at i [] l = tt
  chain_all P h m b at i (t ∷ f) l =
      let r = term_read w p n l.2 in
      (subst (λ (u : Term). P u.exps) (sym r.is) (h (word w i 1) (word w i 2) r.within), chain_all P h (suc m) (after t.exps) i (word w i 3) f l.3)

  pub head_admissible : (i : ℕ) (f : Poly) → i < records w → read_head w p n i ≡ good f → Admissible p n f
  head_admissible i f h e =
      let l = (terms_left w p n i f h e).linked in
      record {
        canonical = (chain_canonical 0 first i (word w i 0) f l).0;
        few = omega (arith, chain_few 0 first i (word w i 0) f (omega arith) l);
        places = chain_all (λ e. length e ≡ 8) (λ hi lo a. exponents_eight hi lo) 0 first i (word w i 0) f l;
        small = λ k. chain_all (λ e. get_or e k 0 ≤ 255) (λ hi lo a. exponents_small hi lo k) 0 first i (word w i 0) f l;
        absent = λ k g. chain_all (λ e. get_or e k 0 ≡ 0) (λ hi lo a. absent_above n (exponents hi lo) a k g) 0 first i (word w i 0) f l;
      }

-- ── the header ──
pub some_record : {w : List ℕ} {p n : ℕ} → Readable w p n → 0 < records w
some_record {w} r = omega (arith, whole_records w r.whole)

pub readable_numbers : (w : List ℕ) (p n : ℕ) → Readable w p n → AdmissibleNumbers p n
readable_numbers w p n r =
    let k = modulus_prime p r.prime in
    record { prime = k.0; below = k.1; some_variable = r.some; eight_variables = r.few }

-- ── a table ──
-- What the words of an accepted table say: its numbers and its chains, by the first words.
pub record TableRead (w : List ℕ) (t : Input) : Type 0 where
  pub modulus : t.modulus ≡ word w 0 0
  pub variables : t.variables ≡ word w 0 1
  pub readable : Readable w (word w 0 0) (word w 0 1)
  pub zeros : read_heads w (word w 0 0) (word w 0 1) (records w) 0 (word w 0 2) ≡ good t.P
  pub nonzeros : read_heads w (word w 0 0) (word w 0 1) (records w) 0 (word w 0 3) ≡ good t.Q

pub table_read : (w : List ℕ) (t : Input) → read_table w ≡ good t → TableRead w t
unfolding read_table
table_read w t e =
    let h = header_read w _ t e in
    let ps = then_good (read_heads w (word w 0 0) (word w 0 1) (records w) 0 (word w 0 2)) _ h.1 in
    let qs = then_good (read_heads w (word w 0 0) (word w 0 1) (records w) 0 (word w 0 3)) _ ps.2 in
    subst (TableRead w) (good_same qs.2)
    (record { modulus = refl; variables = refl; readable = h.0; zeros = ps.1; nonzeros = qs.1 })

heads_admissible : (w : List ℕ) (p n at i : ℕ) (fs : List Poly) → HeadChain w p n at i fs → Each (Admissible p n) fs
heads_admissible w p n = linked_each w _ _ (Admissible p n) (λ s. head_admissible w p n) tt

pub accepted_admissible : (w : List ℕ) (t : Input) → read_table w ≡ good t → AdmissibleInput t
accepted_admissible w t e =
    let r = table_read w t e in
    let p = word w 0 0 in
    let n = word w 0 1 in
    let h = some_record r.readable in
    record {
      numbers = rw (r.modulus, r.variables) (readable_numbers w p n r.readable);
      zeros = rw (r.modulus, r.variables) (heads_admissible w p n 0 (word w 0 2) t.P (heads_left w p n 0 (word w 0 2) t.P h r.zeros).linked);
      nonzeros = rw (r.modulus, r.variables) (heads_admissible w p n 0 (word w 0 3) t.Q (heads_left w p n 0 (word w 0 3) t.Q h r.nonzeros).linked);
    }

-- ── a list ──
pub record ListRead (w : List ℕ) (l : Listing) : Type 0 where
  pub modulus : l.modulus ≡ word w 0 0
  pub variables : l.variables ≡ word w 0 1
  pub readable : Readable w (word w 0 0) (word w 0 1)
  pub systems : read_systems w (word w 0 0) (word w 0 1) (records w) 0 (word w 0 2) ≡ good l.systems
  pub count : length l.systems ≡ word w 0 3

pub list_read : (w : List ℕ) (l : Listing) → read_list w ≡ good l → ListRead w l
unfolding read_list
list_read w l e =
    let h = header_read w _ l e in
    let ss = then_good (read_systems w (word w 0 0) (word w 0 1) (records w) 0 (word w 0 2)) _ h.1 in
    let c = unless_not_good (eqb (length ss.0) (word w 0 3)) Broken 0 _ ss.2 in
    subst (ListRead w) (good_same c.1)
    (record { modulus = refl; variables = refl; readable = h.0; systems = ss.1; count = eqb-true (length ss.0) (word w 0 3) c.0 })

-- The two chains of a system that was read.
pub record SystemRead (w : List ℕ) (p n i : ℕ) (s : System) : Type 0 where
  pub triangle : read_triangle w p n (records w) 0 i (word w i 0) ≡ good s.T
  pub companion : read_heads w p n (records w) i (word w i 1) ≡ good s.U

pub system_read : (w : List ℕ) (p n i : ℕ) (s : System) → read_system w p n i ≡ good s → SystemRead w p n i s
unfolding read_system
system_read w p n i s e =
    let z = unless_not_good (eqb (word w i 2) 0) Broken i _ e in
    let ts = then_good (read_triangle w p n (records w) 0 i (word w i 0)) _ z.1 in
    let us = then_good (read_heads w p n (records w) i (word w i 1)) _ ts.2 in
    subst (SystemRead w p n i) (good_same us.2) (record { triangle = ts.1; companion = us.1 })

pub accepted_list_admissible : (w : List ℕ) (l : Listing) → read_list w ≡ good l → AdmissibleListing l
accepted_list_admissible w l e =
    record {
      numbers = rw (r.modulus, r.variables) (readable_numbers w p n r.readable);
      triangular = rw (r.modulus, r.variables)
          (each (λ s. Each (Admissible p n) s.T) (λ i s h q. heads_admissible w p n i (word w i 0) s.T (triangle i s h q).0));
      companion = rw (r.modulus, r.variables)
          (each (λ s. Each (Admissible p n) s.U)
          (λ i s h q. heads_admissible w p n i (word w i 1) s.U (heads_left w p n i (word w i 1) s.U h (system_read w p n i s q).companion).linked));
      rising = each (λ s. Rising 0 s.T) (λ i s h q. (triangle i s h q).1);
    }
  where
    r : ListRead w l
    r = list_read w l e

    p : ℕ
    p = word w 0 0

    n : ℕ
    n = word w 0 1

    each : (P : System → Type 0) → ((i : ℕ) (s : System) → i < records w → read_system w p n i ≡ good s → P s) → Each P l.systems
    each P f =
        linked_each w _ _ P (λ u. f) tt 0 (word w 0 2) l.systems
        (systems_left w p n 0 (word w 0 2) l.systems (some_record r.readable) r.systems).linked

    triangle : (i : ℕ) (s : System) → i < records w → read_system w p n i ≡ good s → HeadChain w p n i (word w i 0) s.T × Rising 0 s.T
    triangle i s h q = triangle_linked w p n 0 i (word w i 0) s.T h (system_read w p n i s q).triangle
