-- Words that stand in a table from a record on: the words of that record, and what stands behind it. How one record of a chain is read.
use Rattle.std.specs.Prelude.{◌≡◌, List, [], ◌∷◌, ◌++◌, ℕ, suc, ◌+◌, ◌*◌, ◌≤◌, ◌<◌, length, get_or}
use Rattle.std.proofs.Common.{◌∙◌, ap, arith, length-append, get_or-append-add}
use Rattle.std.proofs.Math.ListN.{get_or-append}
use Rattle.tables.specs.Words.{word, records, follow, Followed, end, to, astray}
use Rattle.tables.specs.Read.{Read, good, refused, then}
use Rattle.tables.specs.laws.Chains.{follow_to}
use Rattle.tables.specs.declared.Reason.TheVariants.{Index}

-- The words x stand in w from record i on.
pub record Stands (w : List ℕ) (i : ℕ) (x : List ℕ) : Type 0 where
  pub within : 4 * i + length x ≤ length w
  pub same : (k : ℕ) → k < length x → get_or w (4 * i + k) 0 ≡ get_or x k 0

pub stands_whole : (w : List ℕ) → Stands w 0 w
stands_whole w = record { within = omega arith; same = λ k h. ap (λ j. get_or w j 0) (omega arith) }

module _ (w : List ℕ) (i : ℕ) where
  -- Record i holds a, b, c, d, and x stands behind it.
  pub record Holds (a b c d : ℕ) (x : List ℕ) : Type 0 where
    pub word_0 : word w i 0 ≡ a
    pub word_1 : word w i 1 ≡ b
    pub word_2 : word w i 2 ≡ c
    pub word_3 : word w i 3 ≡ d
    pub inside : i < records w
    pub behind : Stands w (suc i) x

  pub first_record : (a b c d : ℕ) (x : List ℕ) → Stands w i (a ∷ b ∷ c ∷ d ∷ x) → Holds a b c d x
  first_record a b c d x s =
      record {
        word_0 = s.same 0 (omega arith);
        word_1 = s.same 1 (omega arith);
        word_2 = s.same 2 (omega arith);
        word_3 = s.same 3 (omega arith);
        inside = omega arith;
        behind = record {
          within = omega arith;
          same = λ k h. ap (λ j. get_or w j 0) (omega arith) ∙ s.same (suc (suc (suc (suc k)))) (omega arith);
        };
      }

  pub stands_left : (x y : List ℕ) → Stands w i (x ++ y) → Stands w i x
  stands_left x y s =
      record {
        within = omega (arith, length-append x y);
        same = λ k h. s.same k (omega (arith, length-append x y)) ∙ get_or-append x y 0 k h;
      }

  pub stands_right : (x y : List ℕ) (j : ℕ) → 4 * i + length x ≡ 4 * j → Stands w i (x ++ y) → Stands w j y
  stands_right x y j e s =
      record {
        within = omega (arith, length-append x y);
        same = λ k h. ap (λ m. get_or w m 0) (omega arith) ∙ s.same (length x + k) (omega (arith, length-append x y)) ∙ get_or-append-add x y k 0;
      }

-- ── one record of a chain ──
-- All chains are read alike: `one` reads the record at an index, `pass` tests what was read, and `others` reads on from the next index.
module _ {A : Type 0} (w : List ℕ) (one : ℕ → Read A) (pass : A → ℕ → Read (List A) → Read (List A)) (others : A → ℕ → ℕ → Read (List A)) where
  abbrev link : ℕ → Followed → Read (List A)
  link at o =
      elim o [
        | end ↦ good []
        | to j ↦ then (one j) (λ a. pass a j (then (others a j (word w j 3)) (λ ys. good (a ∷ ys))))
        | astray ↦ refused Index at
      ]

  pub link_reads : (at i : ℕ) (x : A) (xs : List A) → at < i → i < records w → one i ≡ good x → others x i (word w i 3) ≡ good xs →
      pass x i (good (x ∷ xs)) ≡ good (x ∷ xs) → link at (follow w at i) ≡ good (x ∷ xs)
  link_reads at i x xs h k e r q =
      ap (link at) (follow_to w at i h k)
      ∙ ap (λ y. then y (λ a. pass a i (then (others a i (word w i 3)) (λ ys. good (a ∷ ys))))) e
      ∙ ap (λ y. pass x i (then y (λ ys. good (x ∷ ys)))) r
      ∙ q
