-- None of the small primes before this one divides p.
use Rattle.std.proofs.Common.{◌≢◌, ℕ, ◌%◌, ◌<◌, get_or}
use Rattle.primes.proofs.is_prime.Given as goal

abbrev pub invariant-loop-q : goal.invariant-loop-q
invariant-loop-q l = (k : ℕ) → k < l.q-index → l.p % get_or l.q-items k 0 ≢ 0
