-- Products that fit in 64 bits.
use Rattle.std.specs.Prelude.{ℕ, ◌*◌, ◌≤◌, ◌<◌}
use Rattle.std.proofs.Common.{mul-le-mul, arith, Fits}
use Rattle.std.specs.Int.{w64}

-- 2^32 + 1 times 2^32 - 1 is the largest number of 64 bits
pub product_fits : {a b : ℕ} → a < 4294967296 → b ≤ 4294967297 → Fits w64 (a * b)
product_fits {a} {b} h k = omega (arith, mul-le-mul {n₁ = a} {m₁ = b} {n₂ = 4294967295} {m₂ = 4294967297} (omega arith) k)
