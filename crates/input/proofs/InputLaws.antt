-- Laws about words from a buffer.
use Rattle.std.proofs.Common.{◌≡◌, refl, sym, ◌∙◌, ap, List, ℕ, ◌+◌, ◌*◌, ◌-◌, ◌<◌, arith, length, get_or, take, drop, Option, Some}
use Rattle.std.proofs.Math.ListN.{set}
use Rattle.std.proofs.Math.Seq.{get_or-drop, get_or-set_same}
use Rattle.decoding.specs.Words.{word_at, words_from}
use Rattle.decoding.proofs.DecodeLaws.{words_from-put}
use Rattle.input.specs.Window.{Window}
use Rattle.input.specs.Input.{Enough, Left, further, Before}

-- Of the words that were left in the buffer k are put.
pub record Filling (w₀ : Window) (k : ℕ) (w : Window) (xs : List ℕ) : Type 0 where
  pub reached : w ≡ further k w₀
  pub decoded : take k xs ≡ words_from (drop w₀.at w₀.bytes) 0 k

word_at-drop : (b : List ℕ) (at i : ℕ) → word_at (drop at b) i ≡ word_at b (at + i)
word_at-drop b at i =
    let byte : (j : ℕ) → get_or b (at + i + j) 0 ≡ get_or (drop at b) (i + j) 0 = λ j. ap (λ (m : ℕ). get_or b m 0) (omega arith) ∙ sym (get_or-drop at b (i + j) 0) in
    omega (arith, get_or-drop at b i 0, byte 1, byte 2, byte 3)

-- The window whose first byte that is not yet used is this one.
abbrev pub from : ℕ → Window → Window
from at w = record { bytes = w.bytes; at = at; end = w.end }

-- None is put.
pub filling_none : (w : Window) {at : ℕ} (xs : List ℕ) → at ≡ w.at → Filling w 0 (from at w) xs
unfolding words_from
filling_none w {at} xs e =
    let on : at ≡ w.at + 4 * 0 = omega arith in
    record { reached = λ t. record { bytes = w.bytes; at = on t; end = w.end }; decoded = refl }

-- One word more is put where it stood behind those before it.
pub filling_on : {w₀ w w' : Window} (n k : ℕ) {xs : List ℕ} {r : Option ℕ} {x : ℕ} → Enough n w₀ → k < n → k < length xs → Filling w₀ k w xs
    → (Left w → (r ≡ Some (word_at w.bytes w.at)) × (w' ≡ further 1 w)) → r ≡ Some x → Filling w₀ (k + 1) w' (set xs k x)
filling_on {w₀} {w} {w'} n k {xs} {r} {x} enough h l f next e =
    let at : w.at ≡ w₀.at + 4 * k = ap (λ (u : Window). u.at) f.reached in
    let end : w.end ≡ w₀.end = ap (λ (u : Window). u.end) f.reached in
    let bytes : w.bytes ≡ w₀.bytes = ap (λ (u : Window). u.bytes) f.reached in
    let q = next (omega arith) in
    let px : Some x ≡ Some (word_at w.bytes w.at) = sym e ∙ q.0 in
    let is : x ≡ word_at w.bytes w.at = cc in
    let on : w.at + 4 * 1 ≡ w₀.at + 4 * (k + 1) = omega arith in
    record {
      reached = q.1 ∙ (λ t. record { bytes = bytes t; at = on t; end = end t });
      decoded = words_from-put (drop w₀.at w₀.bytes) k xs x l (is ∙ (rw (bytes, at, ← (word_at-drop w₀.bytes w₀.at (4 * k))) refl)) f.decoded;
    }

-- The word that was put last stands before what is left.
pub last_put : (xs : List ℕ) (k : ℕ) {x : ℕ} {w : Window} → k < length xs → Before x w → Before (get_or (set xs k x) (k + 1 - 1) 0) w
last_put xs k {x} h p =
    let e : k + 1 - 1 ≡ k = omega arith in
    rw (e, get_or-set_same xs k x 0 h) p
