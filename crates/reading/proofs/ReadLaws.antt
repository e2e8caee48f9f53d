-- What the code tests, as the definitions of reading say it.
use mathlib.Core.Path.{◌≡◌}
use mathlib.Core.Logic.{◌≢◌}
use mathlib.Core.Bool.{true, false, ◌&&◌}
use mathlib.Core.List.{List}
use Prim.Native.Nat.{ℕ, ◌%◌, ◌≤◌, ◌<◌}
use native.Mathlib.Omega.{arith}
use borrow.Author.Tests.{le-leb, lt-leb, eq-eqb, ne_eqb}
use lib.Dec.{leb}
use lib.ListN.{length}
use Rattle.residues.specs.Prime.{is_modulus}
use Rattle.polynomials.specs.Poly.{Poly}
use Rattle.tables.specs.declared.Reason.TheVariants.{Shape, Prime, Variables}
use Rattle.tables.specs.declared.Refusal.{Refusal}
use Rattle.std.proofs.Common.{Ok, Err, sym, get_or}
use Rattle.tables.specs.Words.{word, records, is_whole}
use Rattle.tables.specs.Read.{Read, Input, good, read_heads, read_header, read_table}
use Rattle.tables.specs.Solve.{refusal, checked}
use Rattle.tables.specs.Walk.{Readable, accepted}
use Rattle.words.specs.declared.Table.{Table}
use Rattle.words.specs.Table.{TableOf}
use Rattle.tables.specs.laws.Chains.{checked_good, checked_refused, header_passes, header_refuses, header_readable}

-- ── the header, test by test ──
module _ (w : List ℕ) where
  whole : length w % 4 ≡ 0 → length w ≢ 0 → length w ≤ 262144 → is_whole w ≡ true
  unfolding is_whole
  whole e n h = rw (eq-eqb (length w % 4) 0 e, le-leb 1 (records w) (omega arith), le-leb (records w) 65536 (omega arith))

  refused_shape : is_whole w ≡ false → Err (refusal Shape 0) ≡ checked (read_header w accepted)
  unfolding read_header
  refused_shape e = rw e

  refused_variables : is_whole w ≡ true → is_modulus (word w 0 0) ≡ true → leb 1 (word w 0 1) && leb (word w 0 1) 8 ≡ false
      → Err (refusal Variables 0) ≡ checked (read_header w accepted)
  unfolding read_header
  refused_variables e h v = rw (e, h, v)

  -- a record has four words
  pub refused_ragged : length w % 4 ≢ 0 → Err (refusal Shape 0) ≡ checked (read_header w accepted)
  unfolding is_whole
  refused_ragged h = refused_shape (rw (ne_eqb (length w % 4) 0 h))

  pub refused_empty : length w ≡ 0 → Err (refusal Shape 0) ≡ checked (read_header w accepted)
  unfolding is_whole
  refused_empty h = let z : records w < 1 = omega arith in refused_shape (rw (eq-eqb (length w % 4) 0 (omega arith), lt-leb 1 (records w) z))

  pub refused_long : length w % 4 ≡ 0 → 262144 < length w → Err (refusal Shape 0) ≡ checked (read_header w accepted)
  unfolding is_whole
  refused_long e h = refused_shape (rw (eq-eqb (length w % 4) 0 e, le-leb 1 (records w) (omega arith), lt-leb (records w) 65536 (omega arith)))

  pub refused_prime : length w % 4 ≡ 0 → length w ≢ 0 → length w ≤ 262144 → is_modulus (word w 0 0) ≡ false
      → Err (refusal Prime 0) ≡ checked (read_header w accepted)
  unfolding read_header
  refused_prime e n h prime = rw (whole e n h, prime)

  pub refused_no_variable : length w % 4 ≡ 0 → length w ≢ 0 → length w ≤ 262144 → is_modulus (word w 0 0) ≡ true
      → word w 0 1 < 1 → Err (refusal Variables 0) ≡ checked (read_header w accepted)
  refused_no_variable e n h prime l = refused_variables (whole e n h) prime (rw (lt-leb 1 (word w 0 1) l))

  pub refused_nine_variables : length w % 4 ≡ 0 → length w ≢ 0 → length w ≤ 262144 → is_modulus (word w 0 0) ≡ true
      → 8 < word w 0 1 → Err (refusal Variables 0) ≡ checked (read_header w accepted)
  refused_nine_variables e n h prime l =
      refused_variables (whole e n h) prime (rw (le-leb 1 (word w 0 1) (omega arith), lt-leb (word w 0 1) 8 l))

  pub good_header : length w % 4 ≡ 0 → length w ≢ 0 → length w ≤ 262144 → is_modulus (word w 0 0) ≡ true
      → 1 ≤ word w 0 1 → word w 0 1 ≤ 8 → Ok tt ≡ checked (read_header w accepted)
  unfolding read_header
  good_header e n h prime l u = rw (whole e n h, prime, le-leb 1 (word w 0 1) l, le-leb (word w 0 1) 8 u)

-- What each test of the header answers.
pub ruleset header_tests = (refused_ragged, refused_empty, refused_long, refused_prime, refused_no_variable, refused_nine_variables, good_header)

-- ── a table ──
module _ (w : List ℕ) where
  abbrev heads_of : ℕ → Read (List Poly)
  heads_of i = read_heads w (word w 0 0) (word w 0 1) (records w) 0 i

  pub table_refused : {e : Refusal} → Err e ≡ checked (read_header w accepted) → Err e ≡ checked (read_table w)
  unfolding read_table
  table_refused e = rw (header_refuses w _ (sym e))

  module _ (header : checked (read_header w accepted) ≡ Ok tt) where
    pub table_refused_p : {e : Refusal} → Err e ≡ checked (heads_of (word w 0 2)) → Err e ≡ checked (read_table w)
    unfolding read_table
    table_refused_p e = rw (header_passes w _ header, checked_refused (heads_of (word w 0 2)) (sym e))

    pub table_refused_q : {e : Refusal} → Ok tt ≡ checked (heads_of (word w 0 2)) → Err e ≡ checked (heads_of (word w 0 3)) → Err e ≡ checked (read_table w)
    unfolding read_table
    table_refused_q g e = rw (header_passes w _ header, (checked_good (heads_of (word w 0 2)) (sym g)).1, checked_refused (heads_of (word w 0 3)) (sym e))

    both_read : {P Q : List Poly} → heads_of (word w 0 2) ≡ good P → heads_of (word w 0 3) ≡ good Q
        → read_table w ≡ good (record { modulus = word w 0 0; variables = word w 0 1; P = P; Q = Q })
    unfolding read_table
    both_read p q = rw (header_passes w _ header, p, q)

    pub table_accepted : Ok tt ≡ checked (heads_of (word w 0 2)) → Ok tt ≡ checked (heads_of (word w 0 3)) → (t : Input) × (read_table w ≡ good t)
    table_accepted g h =
        let P = checked_good (heads_of (word w 0 2)) (sym g) in
        let Q = checked_good (heads_of (word w 0 3)) (sym h) in
        (record { modulus = word w 0 0; variables = word w 0 1; P = P.0; Q = Q.0 }, both_read P.1 Q.1)

  -- The heads of the table that the words are.
  pub heads_same : {t : Table} → TableOf w t → (k : ℕ) {i : ℕ} → i ≡ word t.words.now 0 k
      → read_heads t.words.now t.modulus t.variables (records t.words.now) 0 i ≡ heads_of (word w 0 k)
  heads_same T k e = rw (e, T.modulus, T.variables, T.words)

-- A header that passed its tests.
pub readable_header : (w : List ℕ) → checked (read_header w accepted) ≡ Ok tt → Readable w (get_or w 0 0) (get_or w 1 0)
readable_header w h = header_readable w h
