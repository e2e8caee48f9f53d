-- Reading a table and a list: the refusals in reading order, or the polynomials as they stand on the chains. "The record is the one being
-- read, for an index the one that holds it."
use Rattle.std.specs.Prelude.{Bool, true, false, not, ◌&&◌, ◌||◌, List, [], ◌∷◌, ℕ, zero, suc, eqb, leb, length, drop}
use Prim.Native.Nat.{Ordering}
use Rattle.residues.specs.Prime.{is_modulus}
use Rattle.polynomials.specs.Poly.{Exponents, Term, Poly, order}
use Rattle.polynomials.specs.Division.{leader}
use Rattle.tables.specs.declared.Reason.{Reason}
use Rattle.tables.specs.declared.Reason.TheVariants.{Shape, Prime, Variables, Index, Head, Coefficient, Exponent, Order, Terms, Broken}
use Rattle.tables.specs.Words.{word, records, is_whole, follow, end, to, astray, term_at}

-- A table's polynomials, as they stand on its two chains.
pub record Input : Type 0 where
  pub modulus : ℕ
  pub variables : ℕ
  pub P : List Poly
  pub Q : List Poly

-- A triangular list and its companion set.
pub record System : Type 0 where
  pub T : List Poly
  pub U : List Poly

pub record Listing : Type 0 where
  pub modulus : ℕ
  pub variables : ℕ
  pub systems : List System

-- What was read, or the first broken rule and its record.
pub data Read (A : Type 0) : Type 0 where
  good : A → Read A
  refused : Reason → ℕ → Read A

abbrev pub then : {A B : Type 0} → Read A → (A → Read B) → Read B
then (good a) k = k a
then (refused why at) k = refused why at

-- The test b refuses; else what follows.
abbrev pub unless : {A : Type 0} → Bool → Reason → ℕ → Read A → Read A
unless true why at r = refused why at
unless false why at r = r

-- The term before, if there is one.
pub data Before : Type 0 where
  first : Before
  after : Exponents → Before

unfoldable pub not_zero : Exponents → Bool
not_zero [] = false
not_zero (n ∷ e) = elim (eqb n 0) [ true ↦ not_zero e | false ↦ true ]

-- "7 if a variable above vn has an exponent."
unfoldable pub has_above : ℕ → Exponents → Bool
has_above n e = not_zero (drop n e)

-- "8 if it is not below the term before."
unfoldable pub not_below : Exponents → Before → Bool
not_below e first = false
not_below e (after b) = elim (order e b) [ Ordering.lt ↦ false | Ordering.eq ↦ true | Ordering.gt ↦ true ]

module _ (w : List ℕ) (p n : ℕ) where
  -- "At each term: 9 if it is the 257th; 6 if the coefficient is 0 or at least p; 7 ..; 8 .." Term number m of its polynomial, from 0, in record i.
  unfoldable pub read_term : ℕ → Before → ℕ → Read Term
  read_term m b i =
      unless (leb 256 m) Terms i
      (unless (eqb (word w i 0) 0 || leb p (word w i 0)) Coefficient i
      (unless (has_above n (term_at w i).exps) Exponent i
      (unless (not_below (term_at w i).exps b) Order i (good (term_at w i)))))

  -- The terms from the index that record `at` holds; m terms stand before them. A chain has fewer records than the table.
  unfoldable pub read_terms : ℕ → ℕ → Before → ℕ → ℕ → Read Poly
  read_terms zero m b at i = good []
  read_terms (suc fuel) m b at i =
      elim (follow w at i) [
        | end ↦ good []
        | to j ↦ then (read_term m b j) (λ t. then (read_terms fuel (suc m) (after t.exps) j (word w j 3)) (λ f. good (t ∷ f)))
        | astray ↦ refused Index at
      ]

  -- "At each head 5 if word 1 or 2 is not zero."
  unfoldable pub read_head : ℕ → Read Poly
  read_head i = unless (not_zero (word w i 1 ∷ word w i 2 ∷ [])) Head i (read_terms (records w) 0 first i (word w i 0))

  -- The heads from the index that record `at` holds, "a head's terms before its next head".
  unfoldable pub read_heads : ℕ → ℕ → ℕ → Read (List Poly)
  read_heads zero at i = good []
  read_heads (suc fuel) at i =
      elim (follow w at i) [
        | end ↦ good []
        | to j ↦ then (read_head j) (λ f. then (read_heads fuel j (word w j 3)) (λ fs. good (f ∷ fs)))
        | astray ↦ refused Index at
      ]

  -- A T chain: as `read_heads`, "with 15 after each T polynomial without a leading variable or led by one not above the last".
  unfoldable pub read_triangle : ℕ → ℕ → ℕ → ℕ → Read (List Poly)
  read_triangle zero last at i = good []
  read_triangle (suc fuel) last at i =
      elim (follow w at i) [
        | end ↦ good []
        | to j ↦ then (read_head j) (λ f. unless (leb (leader f) last) Broken j (then (read_triangle fuel (leader f) j (word w j 3)) (λ fs. good (f ∷ fs))))
        | astray ↦ refused Index at
      ]

  -- "At each system 4, then 15 if word 2 is not zero, then its T and U chains."
  unfoldable pub read_system : ℕ → Read System
  read_system i =
      unless (not (eqb (word w i 2) 0)) Broken i
      (then (read_triangle (records w) 0 i (word w i 0)) (λ t. then (read_heads (records w) i (word w i 1)) (λ u. good (record { T = t; U = u }))))

  unfoldable pub read_systems : ℕ → ℕ → ℕ → Read (List System)
  read_systems zero at i = good []
  read_systems (suc fuel) at i =
      elim (follow w at i) [
        | end ↦ good []
        | to j ↦ then (read_system j) (λ s. then (read_systems fuel j (word w j 3)) (λ ss. good (s ∷ ss)))
        | astray ↦ refused Index at
      ]

-- "1 if the words are not 1 to 65,536 whole records; 2 if p is out of range or not prime; 3 if n is not 1 to 8."
unfoldable pub read_header : {A : Type 0} → List ℕ → Read A → Read A
read_header w r =
    unless (not (is_whole w)) Shape 0
    (unless (not (is_modulus (word w 0 0))) Prime 0 (unless (not (leb 1 (word w 0 1) && leb (word w 0 1) 8)) Variables 0 r))

-- "Then P's chain, then Q's."
unfoldable pub read_table : List ℕ → Read Input
read_table w =
    read_header w
    (then (read_heads w (word w 0 0) (word w 0 1) (records w) 0 (word w 0 2))
    (λ ps. then (read_heads w (word w 0 0) (word w 0 1) (records w) 0 (word w 0 3))
    (λ qs. good (record { modulus = word w 0 0; variables = word w 0 1; P = ps; Q = qs }))))

-- A list: "15 if the count differs".
unfoldable pub read_list : List ℕ → Read Listing
read_list w =
    read_header w
    (then (read_systems w (word w 0 0) (word w 0 1) (records w) 0 (word w 0 2))
    (λ ss. unless (not (eqb (length ss) (word w 0 3))) Broken 0 (good (record { modulus = word w 0 0; variables = word w 0 1; systems = ss }))))
