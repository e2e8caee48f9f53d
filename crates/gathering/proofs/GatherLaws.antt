-- The rows of f from place i on, gathered in the first terms of a buffer: what the loop of `gather` plugs its places into.
use Rattle.std.specs.Prelude.{◌≡◌, refl, List, [], false, length, take, drop, get_or, Ok, Err}
use Rattle.std.specs.Prelude.{ℕ, ◌+◌, ◌-◌, ◌*◌, ◌%◌, ◌≤◌, ◌<◌}
use Rattle.std.proofs.Common.{sym, ◌∙◌, ap, subst, arith, length-take-le}
use Rattle.std.proofs.lemmas.List.{take_all, get_or-take, take-take}
use Rattle.std.proofs.Math.Seq.{drop-length}
use Rattle.std.proofs.Math.Nat.{mul-le-mul, mul-le-mul_right}
use Rattle.polynomials.specs.Poly.{Poly, add_multiple, product}
use Rattle.polynomials.specs.Canonical.{Canonical}
use Rattle.polynomials.specs.Bounds.{standard, at_most, tested, degrees_over}
use Rattle.polynomials.specs.declared.Term.{Term as Packed}
use Rattle.polynomials.specs.declared.Passed.TheVariants.{Terms}
use Rattle.polynomials.specs.Packed.{bytes, terms, AllFit}
use Rattle.polynomials.specs.Working.{Holds, Written, Forms}
use Rattle.polynomials.specs.laws.Answers.{written_count}
use Rattle.polynomials.specs.laws.Terms.{length_terms, terms_drop}
use Rattle.polynomials.specs.laws.Canonical.{canonical_product}
use Rattle.polynomials.specs.laws.Product.{add_multiple_length, rows_left, row_added, coefficient_below, row_fits}
use Rattle.gathering.specs.Gathers.{room_for}
use Rattle.sums.proofs.MergeLaws.{within_terms_formed, over_terms_refused}

-- ── the rows from place i on ──
-- The row of a term, added to s.
abbrev pub row : (p : ℕ) (t : Packed) (g s : List Packed) → Poly
row p t g s = add_multiple p t.coefficient (bytes 8 t.monomial) (terms g) (terms s)

-- The product of the terms from place i on stands in the first n terms of x. Each row done has brought at most g's terms.
pub record RowsFrom (p : ℕ) (f g : List Packed) (i n : ℕ) (x : List Packed) : Type 0 where
  pub written : Written (product p (terms (drop i f)) (terms g)) n x
  pub done : n + i * length g ≤ length f * length g

-- What `gather` asks of the factors.
pub record Factors (p : ℕ) (f g : List Packed) : Type 0 where
  pub positive : 1 ≤ p
  pub left : Holds p f
  pub right : Holds p g
  pub within : degrees_over (at_most 255) (terms f) (terms g) ≡ false

-- A residue other than 0 stands in f, so that p is not 0.
pub factors : {p : ℕ} {f g : List Packed} → Holds p f × (0 < length f) → Holds p g × (degrees_over (at_most 255) (terms f) (terms g) ≡ false) → Factors p f g
factors {p} {f} b c = record { positive = omega (arith, coefficient_below f 0 (record { coefficient = 0; monomial = 0 }) b.1 p b.0.canonical); left = b.0; right = c.0; within = c.1 }

module _ {p : ℕ} {f g : List Packed} (F : Factors p f g) where
  pub rows_none : (x : List Packed) → RowsFrom p f g (length f) 0 x
  unfolding product terms
  rows_none x = record {
    written = subst (λ s. Written (product p (terms s) (terms g)) 0 x) (sym (drop-length f)) record { within = omega arith; holds = refl };
    done = omega arith;
  }

  -- What is gathered is canonical.
  pub rows_canonical : {i n : ℕ} {x : List Packed} → RowsFrom p f g i n x → Canonical p (terms (take n x))
  rows_canonical {i} {n} {x} R = subst (Canonical p) (sym R.written.holds) (canonical_product p (terms (drop i f)) (terms g) F.positive)

  -- The term t of f at place i; d stands for what is read past the end: never here.
  module _ (i : ℕ) (d t : Packed) (inside : i < length f) (here : t ≡ get_or f i d) where
    pub row_residue : t.coefficient < p
    row_residue = subst (λ (u : Packed). u.coefficient < p) (sym here) (coefficient_below f i d inside p F.left.canonical)

    pub row_within : AllFit t.monomial g
    row_within = subst (λ (u : Packed). AllFit u.monomial g) (sym here) (row_fits f i d inside g F.within)

    -- Its row, added to those behind it.
    module _ {n m : ℕ} {x z : List Packed} (R : RowsFrom p f g (i + 1) n x) (w : Written (row p t g (take n x)) m z) where
      pub row_terms : m ≤ n + length g
      row_terms =
          omega (
            arith,
            written_count (row p t g (take n x)) m z w,
            (add_multiple_length p t.coefficient (bytes 8 t.monomial) (terms g) (terms (take n x))).1,
            length_terms g,
            length_terms (take n x),
            length-take-le n x R.written.within,
          )

      pub row_gathered : RowsFrom p f g i m z
      row_gathered = record {
        written = subst (λ s. Written s m z) same w;
        done = omega (arith, R.done, row_terms);
      }
        where
          same : row p t g (take n x) ≡ product p (terms (drop i f)) (terms g)
          same =
              ap (add_multiple p t.coefficient (bytes 8 t.monomial) (terms g)) R.written.holds
              ∙ ap (λ (u : Packed). add_multiple p u.coefficient (bytes 8 u.monomial) (terms g) (product p (terms (drop (i + 1) f)) (terms g))) here
              ∙ sym (row_added f i d inside p (terms g))

-- ── the loop that gathers ──
-- At its head: an even number of rows is left, and they can bring what is gathered back to 256 terms.
pub record Gathering (p : ℕ) (f g rows : List Packed) (n : ℕ) (x : List Packed) : Type 0 where
  pub factors : Factors p f g
  pub left : rows ≡ take (length rows) f
  pub even : length rows % 2 ≡ 0
  pub inside : length rows ≤ length f
  pub gathered : RowsFrom p f g (length rows) n x
  pub few : n ≤ 256 + length rows * length g

module _ {p : ℕ} {f g : List Packed} (F : Factors p f g) where
  pub none_gathering : (x : List Packed) → length f % 2 ≡ 0 → Gathering p f g f 0 x
  none_gathering x e = record {
    factors = F;
    left = sym (take_all (length f) f (omega arith));
    even = e;
    inside = omega arith;
    gathered = rows_none F x;
    few = omega arith;
  }

  -- Before the loop: the last row where the number of rows is odd.
  module _ (rows : List Packed) (d : Packed) (odd : length f % 2 ≡ 1) (is : rows ≡ take (length f - 1) f) where
    abbrev last : Packed
    last = get_or f (length f - 1) d

    next : length f - 1 + 1 ≡ length f
    next = omega arith

    pub first_gathering : (n : ℕ) (x : List Packed) → Written (row p last g []) n x → Gathering p f g rows n x
    first_gathering n x w = record {
      factors = F;
      left = is ∙ ap (λ (k : ℕ). take k f) (sym count);
      even = omega (arith, count);
      inside = omega (arith, count);
      gathered = subst (λ (i : ℕ). RowsFrom p f g i n x) (sym count) (row_gathered F (length f - 1) d last (omega arith) refl none w);
      few = omega (arith, row_terms F (length f - 1) d last (omega arith) refl none w, F.right.few);
    }
      where
        count : length rows ≡ length f - 1
        count = ap length is ∙ length-take-le (length f - 1) f (omega arith)

        none : RowsFrom p f g (length f - 1 + 1) 0 []
        none = subst (λ (i : ℕ). RowsFrom p f g i 0 []) (sym next) (rows_none F [])

-- One turn: the rows of the last two terms, the upper one first.
module _ {p : ℕ} {f g rows : List Packed} {n : ℕ} {x : List Packed} (G : Gathering p f g rows n x) (more : 2 ≤ length rows) (d : Packed) where
  F : Factors p f g
  F = G.factors

  abbrev upper : Packed
  upper = get_or rows (length rows - 1) d

  abbrev lower : Packed
  lower = get_or rows (length rows - 2) d

  -- A term of the rows that are left is the one of f.
  same_term : (i : ℕ) → i < length rows → get_or rows i d ≡ get_or f i d
  same_term i h = ap (λ s. get_or s i d) G.left ∙ get_or-take (length rows) f i d h

  here : upper ≡ get_or f (length rows - 1) d
  here = same_term (length rows - 1) (omega arith)

  below : lower ≡ get_or f (length rows - 2) d
  below = same_term (length rows - 2) (omega arith)

  -- Where the two do not find room, the terms are less than those asked for.
  pub no_room : (r : ℕ) → r < n + 2 * length g → r < room_for (length f) (length g)
  no_room r h = omega (arith, G.few, G.gathered.done, mul-le-mul_right (length g) more)

  pub terms_small : n + 2 * length g ≤ 66304
  terms_small = omega (arith, G.few, F.right.few, mul-le-mul {n₁ = length rows} {m₁ = length g} {n₂ = 256} {m₂ = 256} (omega (arith, G.inside, F.left.few)) F.right.few)

  behind : RowsFrom p f g (length rows - 1 + 1) n x
  behind = let next : length rows - 1 + 1 ≡ length rows = omega arith in subst (λ (i : ℕ). RowsFrom p f g i n x) (sym next) G.gathered

  pub upper_residue : upper.coefficient < p
  upper_residue = row_residue F (length rows - 1) d upper (omega (arith, G.inside)) here

  pub upper_within : AllFit upper.monomial g
  upper_within = row_within F (length rows - 1) d upper (omega (arith, G.inside)) here

  pub lower_residue : lower.coefficient < p
  lower_residue = row_residue F (length rows - 2) d lower (omega (arith, G.inside)) below

  pub lower_within : AllFit lower.monomial g
  lower_within = row_within F (length rows - 2) d lower (omega (arith, G.inside)) below

  module _ {m : ℕ} {z : List Packed} (w : Written (row p upper g (take n x)) m z) where
    pub upper_terms : m ≤ n + length g
    upper_terms = row_terms F (length rows - 1) d upper (omega (arith, G.inside)) here behind w

    upper_gathered : RowsFrom p f g (length rows - 1) m z
    upper_gathered = row_gathered F (length rows - 1) d upper (omega (arith, G.inside)) here behind w

    pub upper_canonical : Canonical p (terms (take m z))
    upper_canonical = rows_canonical F upper_gathered

    module _ {n' : ℕ} {x' : List Packed} (w' : Written (row p lower g (take m z)) n' x') where
      lower_gathered : RowsFrom p f g (length rows - 2) n' x'
      lower_gathered =
          let next : length rows - 2 + 1 ≡ length rows - 1 = omega arith in
          row_gathered F (length rows - 2) d lower (omega (arith, G.inside)) below (subst (λ (i : ℕ). RowsFrom p f g i m z) (sym next) upper_gathered) w'

      module _ (left : List Packed) (is : left ≡ take (length rows - 2) rows) where
        count : length left ≡ length rows - 2
        count = ap length is ∙ length-take-le (length rows - 2) rows (omega arith)

        pub again : n' ≤ 256 + length left * length g → Gathering p f g left n' x'
        again few = record {
          factors = F;
          left = is ∙ ap (take (length rows - 2)) G.left ∙ take-take (length rows - 2) (length rows) f (omega arith) ∙ ap (λ (k : ℕ). take k f) (sym count);
          even = omega (arith, count, G.even);
          inside = omega (arith, count, G.inside);
          gathered = subst (λ (i : ℕ). RowsFrom p f g i n' x') (sym count) lower_gathered;
          few = few;
        }

        -- Where what is gathered can't come back to 256 terms, the product has more.
        pub stopped : 256 + length left * length g < n' → Forms (tested standard (product p (terms f) (terms g))) (Err Terms) x'
        stopped many =
            over_terms_refused (product p (terms f) (terms g)) x'
            (omega (
              arith,
              many,
              ap (λ (k : ℕ). k * length g) count,
              written_count (product p (terms (drop (length rows - 2) f)) (terms g)) n' x' lower_gathered.written,
              ap (λ s. length (product p s (terms g))) (terms_drop (length rows - 2) f),
              rows_left p (length rows - 2) (terms f) (terms g),
              ap (λ (k : ℕ). (length rows - 2) * k) (length_terms g),
            ))

pub all_gathered : {p : ℕ} {f g rows : List Packed} {n : ℕ} {x : List Packed} → Gathering p f g rows n x → length rows < 2 → Forms (tested standard (product p (terms f) (terms g))) (Ok n) x
all_gathered {p} {f} {g} {rows} {n} {x} G end = within_terms_formed (product p (terms f) (terms g)) n x whole (omega (arith, G.few, ap (λ (k : ℕ). k * length g) none))
  where
    none : length rows ≡ 0
    none = omega (arith, G.even)

    whole : Written (product p (terms f) (terms g)) n x
    whole = subst (λ (i : ℕ). Written (product p (terms (drop i f)) (terms g)) n x) none G.gathered.written
