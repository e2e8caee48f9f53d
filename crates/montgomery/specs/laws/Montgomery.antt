-- Newton's step to the negated inverse, the exact division of a reduction, and which divisors of p a reduction keeps.
use Rattle.std.specs.Prelude.{◌≡◌, refl, ℕ, zero, suc, ◌+◌, ◌*◌, ◌/◌, ◌%◌, ◌^◌, ◌<◌}
use Rattle.std.proofs.Common.{ap, subst, arith}
use Rattle.std.specs.Int.{◌∣◌}
use Rattle.std.proofs.Math.Nat.{mod-add-div, mul-div_cancel', dvd_of_mod-eq-zero, dvd-mul_right, dvd-mul_left_of_dvd, dvd-mul_right_of_dvd, dvd-add, dvd-add_iff_left, dvd-add_iff_right, mul-dvd-mul}
use Rattle.montgomery.specs.Montgomery.{NegatedInverse, Squares, Reduced}

-- with r for n·(2 + p·n) modulo w, p·r + 1 is the square of p·n + 1 modulo w
newton_squares_modulo : (w p n m : ℕ) → m * m ∣ w → m ∣ p * n + 1 → m * m ∣ p * (n * (2 + p * n % w) % w) + 1
newton_squares_modulo w p n m h d =
    (dvd-add_iff_left (m * m) (dvd-mul_right_of_dvd (m * m) h (p * (n * (2 + p * n % w) / w) + p * n * (p * n / w)))).1
    (subst (λ z. m * m ∣ z) square (mul-dvd-mul m m d d))
  where
    square : (p * n + 1) * (p * n + 1) ≡ p * (n * (2 + p * n % w) % w) + 1 + w * (p * (n * (2 + p * n % w) / w) + p * n * (p * n / w))
    square =
        let inner : p * n * (p * n % w + w * (p * n / w)) ≡ p * n * (p * n) = ap (λ z. p * n * z) (mod-add-div (p * n) w) in
        let outer : p * (n * (2 + p * n % w) % w + w * (n * (2 + p * n % w) / w)) ≡ p * (n * (2 + p * n % w)) = ap (λ z. p * z) (mod-add-div (n * (2 + p * n % w)) w) in
        omega arith

pub newton_squares : (p n : ℕ) → Squares p n (n * (2 + p * n % 4294967296) % 4294967296)
newton_squares p n = newton_squares_modulo 4294967296 p n

-- where the steps begin: the product of p and p + 2, and 1, is the square of p + 1, which is even
pub modulo_four : (p : ℕ) → p % 2 ≡ 1 → NegatedInverse 4 p (p + 2)
modulo_four p h = subst (λ z. 4 ∣ z) square (mul-dvd-mul 2 2 even even)
  where
    even : 2 ∣ p + 1
    even = dvd_of_mod-eq-zero 2 (omega arith)

    square : (p + 1) * (p + 1) ≡ p * (p + 2) + 1
    square = omega arith

-- each of four steps squares the modulus
pub squared : (p n r i : ℕ) → i < 4 → Squares p n r → NegatedInverse (2 ^ 2 ^ (i + 1)) p n → NegatedInverse (2 ^ 2 ^ (i + 1 + 1)) p r
squared p n r zero h s k = s 4 (dvd_of_mod-eq-zero 16 refl) k
squared p n r (suc zero) h s k = s 16 (dvd_of_mod-eq-zero 256 refl) k
squared p n r (suc (suc zero)) h s k = s 256 (dvd_of_mod-eq-zero 65536 refl) k
squared p n r (suc (suc (suc zero))) h s k = s 65536 (dvd_of_mod-eq-zero 4294967296 refl) k
squared p n r (suc (suc (suc (suc i)))) h s k = absurd (omega arith)

-- the multiple of p that makes x divisible by w
divisible : (w p n x : ℕ) → w ∣ p * n + 1 → w ∣ x + x % w * n % w * p
divisible w p n x d =
    (dvd-add_iff_left w (dvd-mul_right w (x % w * n / w * p))).1 (subst (λ z. w ∣ z) sum (dvd-add w (dvd-mul_left_of_dvd w d (x % w)) (dvd-mul_right w (x / w))))
  where
    sum : x % w * (p * n + 1) + w * (x / w) ≡ x + x % w * n % w * p + w * (x % w * n / w * p)
    sum =
        let whole : x % w + w * (x / w) ≡ x = mod-add-div x w in
        let m : (x % w * n % w + w * (x % w * n / w)) * p ≡ x % w * n * p = ap (λ z. z * p) (mod-add-div (x % w * n) w) in
        omega arith

pub reduced : (p n x : ℕ) → NegatedInverse 4294967296 p n → Reduced p x ((x + x % 4294967296 * n % 4294967296 * p) / 4294967296)
reduced p n x d = record {
  multiple = x % 4294967296 * n % 4294967296;
  whole = mul-div_cancel' 4294967296 (divisible 4294967296 p n x d);
}

-- where p has a negated inverse modulo w, w has nothing in common with p
cancelled : (w p n r e : ℕ) → w ∣ p * n + 1 → e ∣ p → e ∣ w * r → e ∣ r
cancelled w p n r e d h k =
    (dvd-add_iff_right e (dvd-mul_right_of_dvd e h (n * r))).1 (subst (λ z. e ∣ z) sum (dvd-mul_right_of_dvd e k ((p * n + 1) / w)))
  where
    sum : w * r * ((p * n + 1) / w) ≡ p * (n * r) + r
    sum = let whole : w * ((p * n + 1) / w) * r ≡ (p * n + 1) * r = ap (λ z. z * r) (mul-div_cancel' w d) in omega arith

-- a divisor of p divides what is reduced if it divides x, and only then
pub reduced_divided : (p n x r e : ℕ) → NegatedInverse 4294967296 p n → Reduced p x r → e ∣ p → e ∣ x → e ∣ r
reduced_divided p n x r e d R h k =
    cancelled 4294967296 p n r e d h (rw R.whole (dvd-add e k (dvd-mul_left_of_dvd e h R.multiple)))

pub divided_reduced : (p x r e : ℕ) → Reduced p x r → e ∣ p → e ∣ r → e ∣ x
divided_reduced p x r e R h k =
    (dvd-add_iff_left e (dvd-mul_left_of_dvd e h R.multiple)).1 (rw R.whole at (dvd-mul_left_of_dvd e k 4294967296))
