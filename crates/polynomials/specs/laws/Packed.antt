-- Packed exponents: numbers compare as their bytes do, and sums of numbers have the sums of bytes where none passes 255.
use Rattle.std.specs.Prelude.{◌≡◌, refl, [], ◌∷◌, length, get_or}
use Rattle.std.proofs.Common.{sym, ◌∙◌, ap, ap₂, subst, pow-suc, div-lt_iff_lt-mul, div-one, arith, pow-add}
use Prim.Native.Nat.{ℕ, zero, suc, ◌+◌, ◌*◌, ◌/◌, ◌%◌, ◌^◌, ◌≤◌, ◌<◌, compare, Ordering}
use Rattle.std.proofs.Math.Nat.{pow-succ', div-div-eq-div-mul}
use Rattle.residues.specs.Each.{Each}
use Rattle.polynomials.specs.Poly.{Exponents, order, join, and_then}
use Rattle.polynomials.specs.Packed.{bytes, exponents, Fits, word}
use Rattle.polynomials.specs.laws.Order.{Says, compare_says, compare_is}

-- One byte more decides where the higher ones agree.
says_bytes : (w v : ℕ) (o o' : Ordering) → Says o (w / 256) (v / 256) → Says o' (w % 256) (v % 256) → Says (and_then o o') w v
says_bytes w v Ordering.lt o' h k = omega arith
says_bytes w v Ordering.gt o' h k = omega arith
says_bytes w v Ordering.eq Ordering.lt h k = omega arith
says_bytes w v Ordering.eq Ordering.eq h k = omega arith
says_bytes w v Ordering.eq Ordering.gt h k = omega arith

-- A number of n + 1 bytes without its lowest.
pub fewer_bytes : (n w : ℕ) → w < 256 ^ suc n → w / 256 < 256 ^ n
fewer_bytes n w h = (div-lt_iff_lt-mul {k = 256} (omega arith)).1 (subst (λ z. w < z) (pow-suc 256 n) h)

-- Numbers compare as their bytes do.
pub order_bytes : (n w v : ℕ) → w < 256 ^ n → v < 256 ^ n → order (bytes n w) (bytes n v) ≡ compare w v
unfolding order bytes
order_bytes zero w v h k = sym (compare_is w v Ordering.eq (omega arith))
order_bytes (suc n) w v h k =
    ap (λ o. and_then o (compare (w % 256) (v % 256))) (order_bytes n (w / 256) (v / 256) (fewer_bytes n w h) (fewer_bytes n v k))
    ∙ sym (compare_is w v _ (says_bytes w v (compare (w / 256) (v / 256)) (compare (w % 256) (v % 256)) (compare_says (w / 256) (v / 256)) (compare_says (w % 256) (v % 256))))

-- Then the sum of the numbers has the sums of the bytes.
pub join_bytes : (n w v : ℕ) → Fits n w v → bytes n (w + v) ≡ join (bytes n w) (bytes n v)
unfolding join bytes
join_bytes zero w v f = refl
join_bytes (suc n) w v f = ap₂ ◌∷◌ low (ap (bytes n) high ∙ join_bytes n (w / 256) (v / 256) f.1)
  where
    low : (w + v) % 256 ≡ w % 256 + v % 256
    low = omega (arith, f.0)

    high : (w + v) / 256 ≡ w / 256 + v / 256
    high = omega (arith, f.0)

-- A byte of a word.
byte_at : (n k w : ℕ) → k < n → get_or (bytes n w) k 0 ≡ w / 256 ^ k % 256
unfolding bytes
byte_at zero k w h = absurd (omega arith)
byte_at (suc n) zero w h = ap (λ z. z % 256) (sym (div-one w))
byte_at (suc n) (suc k) w h =
    byte_at n k (w / 256) (omega arith) ∙ ap (λ z. z % 256) (div-div-eq-div-mul w 256 (256 ^ k) ∙ ap (λ z. w / z) (sym (pow-succ' 256 k)))

-- ── back to a word ──
pub word_bytes : (n w : ℕ) → w < 256 ^ n → word (bytes n w) ≡ w
unfolding word bytes
word_bytes zero w h = omega arith
word_bytes (suc n) w h = ap (λ z. w % 256 + 256 * z) (word_bytes n (w / 256) (fewer_bytes n w h)) ∙ omega arith

abbrev pub AllBytes : Exponents → Type 0
AllBytes e = Each (λ b. b < 256) e

pub bytes_word : (e : Exponents) → AllBytes e → bytes (length e) (word e) ≡ e
unfolding word bytes
bytes_word [] s = refl
bytes_word (b ∷ e) s = ap₂ ◌∷◌ low (ap (bytes (length e)) high ∙ bytes_word e s.1)
  where
    low : (b + 256 * word e) % 256 ≡ b
    low = omega (arith, s.0)

    high : (b + 256 * word e) / 256 ≡ word e
    high = omega (arith, s.0)

-- Bytes whose sums are at most 255, place by place, are added without carries.
pub fits : (n w v : ℕ) → ((k : ℕ) → k < n → get_or (bytes n w) k 0 + get_or (bytes n v) k 0 ≤ 255) → Fits n w v
unfolding bytes
fits zero w v h = tt
fits (suc n) w v h = (omega (arith, h 0 (omega arith)), fits n (w / 256) (v / 256) (λ k l. h (suc k) (omega arith)))

pub length_bytes : (n w : ℕ) → length (bytes n w) ≡ n
unfolding bytes
length_bytes zero w = refl
length_bytes (suc n) w = ap suc (length_bytes n (w / 256))

pub byte_small : (n w k : ℕ) → get_or (bytes n w) k 0 < 256
unfolding bytes
byte_small zero w k = omega arith
byte_small (suc n) w zero = omega arith
byte_small (suc n) w (suc k) = byte_small n (w / 256) k

pub bytes_inj : (n w v : ℕ) → w < 256 ^ n → v < 256 ^ n → bytes n w ≡ bytes n v → w ≡ v
bytes_inj n w v h k e = sym (word_bytes n w h) ∙ ap word e ∙ word_bytes n v k

-- A monomial and a table's two words.
pub bytes_words : (hi lo : ℕ) → lo < 4294967296 → bytes 8 (hi * 4294967296 + lo) ≡ exponents hi lo
unfolding bytes exponents
bytes_words hi lo h =
    ap₂ ◌∷◌ (omega arith) (ap₂ ◌∷◌ (omega arith) (ap₂ ◌∷◌ (omega arith) (ap₂ ◌∷◌ (omega arith)
    (ap₂ ◌∷◌ (omega arith) (ap₂ ◌∷◌ (omega arith) (ap₂ ◌∷◌ (omega arith) (ap₂ ◌∷◌ (omega arith) refl)))))))

-- A byte by a shift.
pub byte_power : (k : ℕ) → 256 ^ k ≡ 2 ^ (8 * k)
byte_power zero = refl
byte_power (suc k) = pow-suc 256 k ∙ ap (λ z. z * 256) (byte_power k) ∙ sym (pow-add 2 (8 * k) 8) ∙ ap (λ (n : ℕ). 2 ^ n) next
  where
    next : 8 * k + 8 ≡ 8 * suc k
    next = omega arith

pub byte_shift : (n k w : ℕ) → k < n → w / 2 ^ (8 * k) % 256 ≡ get_or (bytes n w) k 0
byte_shift n k w h = ap (λ z. w / z % 256) (sym (byte_power k)) ∙ sym (byte_at n k w h)
