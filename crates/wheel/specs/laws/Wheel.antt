-- The wheel of 30: of 30 numbers in a row eight are coprime to 30, and any other divisor of p brings 2, 3 or 5 with it.
-- So 2, 3, 5 and the eight candidates of each turn from d = 7, 37, 67 and so on are divisors enough to try.
use Rattle.std.specs.Prelude.{◌≡◌, ◌≢◌, true, false, List, [], ◌∷◌, ℕ, ◌+◌, ◌*◌, ◌%◌, ◌≤◌, ◌<◌, eqb}
use Rattle.std.proofs.Common.{sym, ◌∙◌, subst, mul-le-mul_left, mod-eq_of_lt, arith, eq-eqb, ne_eqb}
use Rattle.std.proofs.lemmas.Nat.Gcd.{mod-eq-zero_of_dvd, dvd_of_mod-eq-zero, dvd_trans}
use Rattle.std.proofs.Math.Decide.{ℕ_discrete, dec_lt}
use Rattle.residues.specs.Each.{Each}
use Rattle.residues.specs.Prime.{Prime, is_prime, no_divisor_from}
use Rattle.residues.specs.laws.Booleans.{true_of}
use Rattle.residues.specs.laws.Prime.{is_prime_sound, is_prime_complete}
use Rattle.wheel.specs.Wheel.{Coprime30, Turn}
use Rattle.wheel.specs.laws.Root.{test_no, test_small}

-- ── divisors of a number coprime to 30 ──
divides_on : (p e q : ℕ) → p % e ≡ 0 → e % q ≡ 0 → p % q ≡ 0
divides_on p e q h k = mod-eq-zero_of_dvd q (dvd_trans q (dvd_of_mod-eq-zero q k) (dvd_of_mod-eq-zero e h))

pub coprime_divisor : (p e : ℕ) → Coprime30 p → p % e ≡ 0 → Coprime30 e
coprime_divisor p e C h = record {
  two = λ k. C.two (divides_on p e 2 h k);
  three = λ k. C.three (divides_on p e 3 h k);
  five = λ k. C.five (divides_on p e 5 h k);
}

-- ── what is left modulo 30 ──
-- What holds of the eight remainders holds of that which a number coprime to 30 leaves.
unfoldable pub remainders : List ℕ
remainders = 1 ∷ 29 ∷ 7 ∷ 23 ∷ 11 ∷ 19 ∷ 13 ∷ 17 ∷ []

or_else : (P : ℕ → Type 0) (x k : ℕ) → P k → (x ≢ k → P x) → P x
or_else P x k a f = elim (ℕ_discrete x k) [ yes q ↦ rw q a | no n ↦ f n ]

pub of_remainders : (P : ℕ → Type 0) → Each P remainders → (e : ℕ) → Coprime30 e → P (e % 30)
unfolding remainders
of_remainders P (a, (b, (c, (d, (f, (g, (h, (i, _)))))))) e C =
    or_else P _ 1 a (λ j. or_else P _ 29 b (λ k. or_else P _ 7 c (λ l. or_else P _ 23 d (λ m. or_else P _ 11 f (λ n. or_else P _ 19 g (λ o.
    or_else P _ 13 h (λ p. or_else P _ 17 i (λ q. absurd (omega arith)))))))))

-- ── the loop over the turns ──
-- a turn that no candidate divides: no number up to the next turn divides p
pub turn_over : (p d : ℕ) → Coprime30 p → ((e : ℕ) → 2 ≤ e → e < d → p % e ≢ 0) → Turn p d false → (e : ℕ) → 2 ≤ e → e < d + 30 → p % e ≢ 0
turn_over p d C f t e h l z = elim (dec_lt e d) [ yes s ↦ f e h s z | no s ↦ t e (omega arith) l (coprime_divisor p e C z) z ]

-- a number that a candidate of a turn up to the root divides is not prime
pub turn_refutes : (p d : ℕ) → 7 ≤ d → d * d ≤ p → Turn p d true → false ≡ is_prime p
turn_refutes p d h l (e, from, to, z) = let m : d * 7 ≤ d * d = mul-le-mul_left d h in test_no p e (omega arith) (omega arith) z

-- ── the tests before the wheel ──
-- a number that a prime divides is prime only where it is that prime
pub divided_by_prime : (p q : ℕ) → Prime q → p % q ≡ 0 → eqb p q ≡ is_prime p
divided_by_prime p q Q z = elim (ℕ_discrete p q) [
  | yes r ↦ eq-eqb p q r ∙ true_of (is_prime p) (is_prime_complete p (subst Prime (sym r) Q))
  | no n ↦ ne_eqb p q n ∙ elim (dec_lt q p) [ yes l ↦ test_no p q Q.two≤ l z | no l ↦ test_small p (omega (arith, mod-eq_of_lt {n = p} {m = q} (omega arith))) ]
]

pub two_prime : Prime 2
unfolding is_prime no_divisor_from
two_prime = is_prime_sound 2 tt

pub three_prime : Prime 3
unfolding is_prime no_divisor_from
three_prime = is_prime_sound 3 tt

pub five_prime : Prime 5
unfolding is_prime no_divisor_from
five_prime = is_prime_sound 5 tt
