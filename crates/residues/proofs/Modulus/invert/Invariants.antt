-- a times t leaves x, which is a residue other than 0.
use Rattle.std.proofs.Common.{◌≡◌, ◌*◌, ◌%◌, ◌≤◌, ◌<◌}
use Rattle.residues.proofs.Modulus.invert.Given as goal

abbrev pub invariant-loop-x : goal.invariant-loop-x
invariant-loop-x l = (1 ≤ l.x) × (l.x < l.self-inside.p) × (l.t < l.self-inside.p) × (l.a * l.t % l.self-inside.p ≡ l.x)

abbrev pub decreases-loop-x : goal.decreases-loop-x
decreases-loop-x l = l.x
