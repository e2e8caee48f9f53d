-- A turn begins at `first`, and each of the four products has gathered its candidates below it.
-- The measure is what is left up to 46351, whose square is above 2^31.
use Rattle.std.proofs.Common.{◌≡◌, ◌-◌, ◌%◌, ◌≤◌}
use Rattle.primes.specs.Gathered.{AllGathered}
use Rattle.primes.proofs.is_prime_by_products.Given as goal

abbrev pub invariant-loop-first : goal.invariant-loop-first
invariant-loop-first l = (l.first % 30 ≡ 1) × (l.first ≤ 46351) × AllGathered l.p l.first l.products

abbrev pub decreases-loop-first : goal.decreases-loop-first
decreases-loop-first l = 46351 - l.first
