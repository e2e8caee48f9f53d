-- The products before i have gathered the turn, the others only those before it.
use Rattle.std.proofs.Common.{ℕ, ◌+◌, ◌≤◌, ◌<◌}
use Rattle.primes.specs.Gathered.{GatheredAt}
use Rattle.primes.proofs.gather_turn.Given as goal

abbrev pub invariant-loop-i : goal.invariant-loop-i
invariant-loop-i l =
    ((k : ℕ) → k < l.i → GatheredAt l.modulus.p (l.first + 30) l.products k) × ((k : ℕ) → l.i ≤ k → k < 4 → GatheredAt l.modulus.p l.first l.products k)
