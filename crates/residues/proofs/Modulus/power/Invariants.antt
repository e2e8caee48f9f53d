-- r times b to the k leaves what x to the e leaves.
use Rattle.std.proofs.Common.{◌≡◌, ◌*◌, ◌%◌, ◌^◌, ◌≤◌, ◌<◌}
use Rattle.residues.proofs.Modulus.power.Given as goal

abbrev pub invariant-loop-k : goal.invariant-loop-k
invariant-loop-k l = (1 ≤ l.k) × (l.r < l.self) × (l.b < l.self) × (l.r * l.b ^ l.k % l.self ≡ l.x ^ l.e % l.self)

abbrev pub decreases-loop-k : goal.decreases-loop-k
decreases-loop-k l = l.k
