-- A number that none up to its root divides is prime. What the prime test answers, and why.
use Rattle.std.specs.Prelude.{◌≡◌, ◌≢◌, Bool, true, false, ℕ, ◌*◌, ◌/◌, ◌%◌, ◌≤◌, ◌<◌}
use Rattle.std.proofs.Common.{sym, ◌∙◌, ap, mul-le-mul, mul-le-mul_left, mul-le-mul_right, le_of_lt, lt_of_not-le, arith, lt-ltb, le-ltb}
use Rattle.std.proofs.Math.Nat.{mod-add-div, mul-mod_left, lt_of_mul-lt-mul_left}
use Rattle.std.proofs.Math.Decide.{dec_le}
use Rattle.residues.specs.Prime.{Prime, is_prime, is_modulus}
use Rattle.residues.specs.laws.Booleans.{true_of, false_of}
use Rattle.residues.specs.laws.Prime.{is_prime_sound, is_prime_complete}

-- no divisor up to the root
prime_of_root : (p : ℕ) → 2 ≤ p → ((d : ℕ) → 2 ≤ d → d * d ≤ p → p % d ≢ 0) → Prime p
prime_of_root p h f = record { two≤ = h; no_divisor = go }
  where
    go : (d : ℕ) → 2 ≤ d → d < p → p % d ≢ 0
    go d h2 l e = elim (dec_le (d * d) p) [ yes s ↦ f d h2 s e | no s ↦ f (p / d) q2 (small s) (ap (λ z. z % (p / d)) (sym whole) ∙ mul-mod_left d (p / d)) ]
      where
        whole : d * (p / d) ≡ p
        whole = omega (arith, mod-add-div p d, e)

        q2 : 2 ≤ p / d
        q2 = lt_of_mul-lt-mul_left d {m = 1} {n = p / d} (omega (arith, whole))

        small : ¬ (d * d ≤ p) → p / d * (p / d) ≤ p
        small s = elim (dec_le (p / d) d) [
          | yes u ↦ omega (arith, mul-le-mul_right (p / d) u, whole)
          | no u ↦ absurd (s (omega (arith, mul-le-mul_left d (le_of_lt (lt_of_not-le u)), whole)))
        ]

-- numbers and their squares
pub root_below : (p d e : ℕ) → p < d * d → e * e ≤ p → e < d
root_below p d e h l = lt_of_not-le (λ (k : d ≤ e). let m : d * d ≤ e * e = mul-le-mul k k in omega arith)

-- what the code answers
pub test_yes : (p : ℕ) → 2 ≤ p → ((d : ℕ) → 2 ≤ d → d * d ≤ p → p % d ≢ 0) → true ≡ is_prime p
test_yes p h f = true_of (is_prime p) (is_prime_complete p (prime_of_root p h f))

pub test_no : (p d : ℕ) → 2 ≤ d → d < p → p % d ≡ 0 → false ≡ is_prime p
test_no p d h l e = false_of (is_prime p) (λ t. (is_prime_sound p t).no_divisor d h l e)

pub test_small : (p : ℕ) → p < 2 → false ≡ is_prime p
test_small p h = false_of (is_prime p) (λ t. let k : 2 ≤ p = (is_prime_sound p t).two≤ in omega arith)

-- from the test for a prime to that for a modulus
pub modulus_below : (p : ℕ) (r : Bool) → p < 2147483648 → r ≡ is_prime p → r ≡ is_modulus p
unfolding is_modulus
modulus_below p r h e = rw (lt-ltb p 2147483648 h) e

pub modulus_above : (p : ℕ) → 2147483648 ≤ p → false ≡ is_modulus p
unfolding is_modulus
modulus_above p h = rw (le-ltb p 2147483648 h)
