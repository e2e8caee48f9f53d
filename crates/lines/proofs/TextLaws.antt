-- Laws about lines that are put at a text's end.
use Rattle.std.proofs.Common.{◌≡◌, refl, ◌∙◌, ap, List, [], ◌∷◌, ◌++◌, append_assoc, length-append, ℕ, ◌+◌, ◌*◌, ◌≤◌, ◌<◌, add-one, arith, length, drop, get_or, drop-cons}
use Rattle.std.proofs.Math.Seq.{drop-length}
use Rattle.std.specs.Fmt.{decimal}
use Rattle.std.specs.List.{IsFirstAndRest}
use Rattle.lines.specs.Written.{Written, capacity, Adds}
use Rattle.lines.specs.Text.{rest_text, line_text, LineAdded}

-- The text t', with the numbers of the line from number i of `rest` on, is the text t with the whole line.
pub record LineBegun (numbers : List ℕ) (t : Written) (rest : List ℕ) (i : ℕ) (t' : Written) : Type 0 where
  pub near : length t'.bytes ≤ length t.bytes + 20 + 21 * i
  pub lined : t'.bytes ++ rest_text (drop i rest) ≡ t.bytes ++ line_text numbers
  pub kept : capacity t' ≡ capacity t

-- The buffer is as long as before.
pub capacity-Adds : {s : List ℕ} {t t' : Written} → Adds s t t' → capacity t' ≡ capacity t
capacity-Adds {s} {t} a = omega (arith, ap length a.bytes, length-append t.bytes s, a.free)

rest_text-drop : (rest : List ℕ) (i : ℕ) → i < length rest → rest_text (drop i rest) ≡ 32 ∷ (decimal (get_or rest i 0) ++ rest_text (drop (i + 1) rest))
unfolding rest_text
rest_text-drop rest i h = rw (add-one, drop-cons rest i 0) refl

-- A line with no number.
pub line_none : (numbers : List ℕ) {t t' : Written} → length numbers ≡ 0 → Adds (10 ∷ []) t t' → LineAdded numbers t t'
unfolding line_text
line_none [] {t} e a = record { near = omega (arith, ap length a.bytes, length-append t.bytes (10 ∷ [])); is = a }
line_none (n ∷ ns) e a = absurd (omega arith)

module _ {numbers rest : List ℕ} {t : Written} where
  -- The first number of a line stands there.
  pub line_first : {first n : ℕ} {t' : Written} → IsFirstAndRest numbers first rest → n ≡ first → Adds (decimal n) t t' → length t'.bytes ≤ length t.bytes + 20
      → LineBegun numbers t rest 0 t'
  unfolding line_text
  line_first {first} {n} e s a short =
      record {
        near = omega arith;
        lined = rw (e.0, a.bytes, append_assoc, s) refl;
        kept = capacity-Adds a;
      }

  -- The next number is added behind a blank.
  pub line_next : (i : ℕ) {t' t'' : Written} → i < length rest → LineBegun numbers t rest i t' → Adds (32 ∷ decimal (get_or rest i 0)) t' t''
      → length t''.bytes ≤ length t'.bytes + 21 → LineBegun numbers t rest (i + 1) t''
  line_next i h l a short =
      record { near = omega (arith, l.near); lined = rw (a.bytes, append_assoc, ← (rest_text-drop rest i h)) l.lined; kept = capacity-Adds a ∙ l.kept }

  -- After the last number the line's end is left.
  pub line_end : {first : ℕ} {t' t'' : Written} (i : ℕ) → IsFirstAndRest numbers first rest → length rest ≤ i → i ≤ length rest → LineBegun numbers t rest i t'
      → Adds (10 ∷ []) t' t'' → LineAdded numbers t t''
  unfolding rest_text
  line_end {first} {t'} {t''} i e h k l a =
      let n : i ≡ length rest = omega arith in
      let done : t''.bytes ≡ t.bytes ++ line_text numbers = a.bytes ∙ (rw (n, drop-length rest) at l.lined) in
      record {
        near = omega (arith, l.near, e.1, ap length a.bytes, length-append t'.bytes (10 ∷ []));
        is = record { bytes = done; free = omega (arith, ap length done, length-append t.bytes (line_text numbers), capacity-Adds a, l.kept) };
      }
