-- A turn begins at d, and no number from 2 up to d divides p. The measure is what is left up to 2^16, where the square of d would no longer fit.
use Rattle.std.proofs.Common.{◌≡◌, ◌≢◌, ℕ, ◌-◌, ◌%◌, ◌≤◌, ◌<◌}
use Rattle.wheel.proofs.is_prime_by_wheel.Given as goal

abbrev pub invariant-loop-d : goal.invariant-loop-d
invariant-loop-d l = (l.d % 30 ≡ 7) × (l.d < 65536) × ((e : ℕ) → 2 ≤ e → e < l.d → l.p % e ≢ 0)

abbrev pub decreases-loop-d : goal.decreases-loop-d
decreases-loop-d l = 65536 - l.d
