-- The terms of the first i records are written; what stands behind them stays.
use Rattle.std.proofs.Common.{◌≡◌, ◌+◌, map, take, drop}
use Rattle.records.specs.Records.{view}
use Rattle.stored.specs.Stored.{term_of}
use Rattle.stored.proofs.load.Given as goal

abbrev pub invariant-loop-i : goal.invariant-loop-i
invariant-loop-i l =
    (take l.i l.out ≡ map term_of (take l.i (drop (l.at + 1) (view l.w)))) × (drop l.i l.out ≡ drop l.i l.fn.out)
