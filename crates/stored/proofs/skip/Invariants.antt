-- The walk has passed i polynomials.
use Rattle.std.proofs.Common.{◌≡◌}
use Rattle.records.specs.Records.{view}
use Rattle.stored.specs.Stored.{skip_to}
use Rattle.stored.proofs.skip.Given as goal

abbrev pub invariant-loop-i : goal.invariant-loop-i
invariant-loop-i l = l.end ≡ skip_to (view l.w) l.at l._i
