-- The first i terms are f's.
use Rattle.std.proofs.Common.{◌≡◌, take}
use Rattle.records.specs.Records.{view}
use Rattle.stored.specs.Stored.{poly_at}
use Rattle.finding.proofs.equal_at.Given as goal

abbrev pub invariant-loop-i : goal.invariant-loop-i
invariant-loop-i l = take l.i (poly_at (view l.w) l.at) ≡ take l.i l.f
