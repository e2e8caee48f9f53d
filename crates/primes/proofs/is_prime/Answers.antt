use Rattle.std.proofs.Common.{[], ◌∷◌, ℕ, zero, suc, ◌<◌, get_or, arith}
use Rattle.residues.specs.Prime.{Prime}
use Rattle.wheel.specs.laws.Root.{test_small, modulus_below, modulus_above}
use Rattle.wheel.specs.laws.Wheel.{divided_by_prime, two_prime, three_prime, five_prime}
use Rattle.primes.proofs.is_prime.Goals as goal

small_prime : (k : ℕ) → k < 3 → Prime (get_or (2 ∷ 3 ∷ 5 ∷ []) k 0)
small_prime zero h = two_prime
small_prime (suc zero) h = three_prime
small_prime (suc (suc zero)) h = five_prime
small_prime (suc (suc (suc k))) h = absurd (omega arith)

pub returns-then-p-ge2147483648 : goal.returns-then-p-ge2147483648
returns-then-p-ge2147483648 c = modulus_above _ (omega arith)

pub returns-then-p-lt2 : goal.returns-then-p-lt2
returns-then-p-lt2 c = modulus_below _ _ (omega arith) (test_small _ (omega arith))

pub returns-then-p-q-eq0 : goal.returns-then-p-q-eq0
returns-then-p-q-eq0 c =
    modulus_below _ _ (omega arith)
    (divided_by_prime _ _ (small_prime c.loop-q.q-index (omega arith)) c.if-p-q-eq0.true)

pub returns-then-p-lt65536 : goal.returns-then-p-lt65536
returns-then-p-lt65536 c = modulus_below _ _ (omega arith) c.is_prime_by_wheel.ensures

pub returns : goal.returns
returns c = modulus_below _ _ (omega arith) (rw c.from.ensures at c.is_prime_by_products.ensures)
