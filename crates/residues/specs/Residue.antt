-- Residues modulo p, the numbers 0 to p − 1: sum, difference, product, and the inverse of a residue other than 0.
use Rattle.std.specs.Prelude.{◌≡◌, refl, true, false, ℕ, zero, suc, ◌+◌, ◌-◌, ◌*◌, ◌/◌, ◌%◌, ltb}

unfoldable pub sum : ℕ → ℕ → ℕ → ℕ
sum p a b = (a + b) % p

unfoldable pub difference : ℕ → ℕ → ℕ → ℕ
difference p a b = (a + (p - b)) % p

unfoldable pub product : ℕ → ℕ → ℕ → ℕ
product p a b = a * b % p

-- With b·t ≡ a modulo p for some b: the t at which a has become 1, in at most n turns from a to p % a, which is not 0 for a prime p.
unfoldable pub inverse_from : ℕ → ℕ → ℕ → ℕ → ℕ
inverse_from zero p a t = t
inverse_from (suc n) p a t = elim (ltb 1 a) [ true ↦ inverse_from n p (p % a) (t * (p - p / a) % p) | false ↦ t ]

-- The inverse of a modulo the prime p: the one residue whose product with a is 1 (`laws.Inverse`).
unfoldable pub inverse : ℕ → ℕ → ℕ
inverse p a = inverse_from a p a 1

three_modulo_seven : inverse 7 3 ≡ 5
unfolding inverse inverse_from
three_modulo_seven = refl

at_the_largest_prime : product 2147483647 (inverse 2147483647 123456789) 123456789 ≡ 1
unfolding product inverse inverse_from
at_the_largest_prime = refl
