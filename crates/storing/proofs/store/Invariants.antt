-- The head and the first i terms are written.
use Rattle.std.proofs.Common.{◌≡◌, ◌+◌}
use Rattle.std.proofs.Math.Seq.{paste}
use Rattle.records.specs.Records.{view}
use Rattle.stored.specs.Stored.{poly_records}
use Rattle.storing.proofs.store.Given as goal

abbrev pub invariant-loop-i : goal.invariant-loop-i
invariant-loop-i l = view l.w ≡ paste (view l.fn.w) l.at (poly_records l.f) (l.i + 1)
