-- Primes, and the numbers that a table may give as its p: "p is a prime, 2 ≤ p < 2^31".
use Rattle.std.specs.Prelude.{◌≡◌, refl, ◌≢◌, Bool, true, false, ◌&&◌, ℕ, zero, suc, ◌-◌, ◌%◌, ◌≤◌, ◌<◌, leb, ltb, eqb}

-- p is at least 2, and no number from 2 on below it divides it.
pub record Prime (p : ℕ) : Type 0 where
  pub two≤ : 2 ≤ p
  pub no_divisor : (d : ℕ) → 2 ≤ d → d < p → p % d ≢ 0

-- None of the n numbers from d on divides p.
unfoldable pub no_divisor_from : ℕ → ℕ → ℕ → Bool
no_divisor_from zero d p = true
no_divisor_from (suc n) d p = elim (eqb (p % d) 0) [ true ↦ false | false ↦ no_divisor_from n (suc d) p ]

-- Whether p is prime, as a test: true exactly for primes (`laws.Prime`).
unfoldable pub is_prime : ℕ → Bool
is_prime p = leb 2 p && no_divisor_from (p - 2) 2 p

-- Whether p is a prime below 2^31.
unfoldable pub is_modulus : ℕ → Bool
is_modulus p = ltb p 2147483648 && is_prime p

seven : is_modulus 7 ≡ true
unfolding is_modulus is_prime no_divisor_from
seven = refl

two : is_modulus 2 ≡ true
unfolding is_modulus is_prime no_divisor_from
two = refl

one : is_modulus 1 ≡ false
unfolding is_modulus is_prime no_divisor_from
one = refl

nine : is_modulus 9 ≡ false
unfolding is_modulus is_prime no_divisor_from
nine = refl
