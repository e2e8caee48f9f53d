-- A point against a table: what the tests of a point and the answers of its polynomials say of it.
use Rattle.std.specs.Prelude.{◌≡◌, Bool, true, false, not, List, ℕ, Ok, Err}
use Rattle.std.specs.Bool.{Decides}
use Rattle.std.proofs.lemmas.Bool.Decides.{same_from_decides}
use Rattle.std.proofs.Common.{sym}
use Rattle.polynomials.specs.Poly.{Poly}
use Rattle.polynomials.specs.Value.{Point}
use Rattle.tables.specs.declared.Reason.TheVariants.{Point as PointReason}
use Rattle.tables.specs.declared.Refusal.{Refusal}
use Rattle.tables.specs.Words.{word}
use Rattle.tables.specs.Read.{Input, good, unless, read_table}
use Rattle.tables.specs.Solve.{is_point, all_zero, none_zero, solves, refusal, checked, try_input, Tries}
use Rattle.tables.specs.Solved.{PointOf}
use Rattle.tables.specs.laws.Chains.{checked_refused}
use Rattle.tables.specs.laws.Solved.{point_is}
use Rattle.words.specs.declared.Table.{Table}
use Rattle.words.specs.Table.{TableOf, ArePolynomialsFrom}
use Rattle.words.proofs.Accepted.{ChainsRead, chains_read}

-- ── a point ──
pub point_decided : (p n : ℕ) (x : List ℕ) (b : Bool) → Decides b (PointOf p n x) → b ≡ is_point p n x
point_decided p n x b h = same_from_decides b (is_point p n x) h (point_is p n x)

pub point_residues : (p n : ℕ) (x : List ℕ) → true ≡ is_point p n x → Point p x
point_residues p n x e = ((point_is p n x).0 (sym e)).1

-- ── a table ──
module _ (w x : List ℕ) where
  pub table_refused : {e : Refusal} → Err e ≡ checked (read_table w) → Tries w x (Err e)
  unfolding try_input
  table_refused h = rw (checked_refused (read_table w) (sym h))

-- The table of an accepted input.
module _ {w : List ℕ} {t : Table} (of : TableOf w t) {i : Input} (is_read : read_table w ≡ good i) where
  k : ChainsRead t i
  k = chains_read of is_read

  module _ (x : List ℕ) where
    answer : try_input w x ≡ unless (not (is_point t.modulus t.variables x)) PointReason 0 (good (solves t.modulus x i.P i.Q))
    unfolding try_input
    answer = rw (is_read, k.modulus, k.variables)

    pub no_point : false ≡ is_point t.modulus t.variables x → Tries w x (Err (refusal PointReason 0))
    no_point e = rw (answer, ← e)

    -- The point is one. `first` and `second` are the indices of the two chains, a and b what they answer.
    module _ (is_one : true ≡ is_point t.modulus t.variables x) {first : ℕ} (P : first ≡ word t.words.now 0 2) {a : Bool}
        (a_is : (fs : List Poly) → ArePolynomialsFrom t 0 first fs → a ≡ all_zero t.modulus x fs) where
      pub some_nonzero : a ≡ false → Tries w x (Ok a)
      unfolding solves
      some_nonzero h = rw (answer, ← is_one, ← a_is i.P (rw P k.zeros), h)

      pub all_zeros : a ≡ true → {second : ℕ} → second ≡ word t.words.now 0 3 → {b : Bool} → ((fs : List Poly) → ArePolynomialsFrom t 0 second fs → b ≡ none_zero t.modulus x fs)
          → Tries w x (Ok b)
      unfolding solves
      all_zeros h Q b_is = rw (answer, ← is_one, ← a_is i.P (rw P k.zeros), h, ← b_is i.Q (rw Q k.nonzeros))
