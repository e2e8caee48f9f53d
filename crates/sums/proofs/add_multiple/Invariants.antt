-- The terms written, with what is still to be merged, are the whole sum.
use Rattle.std.proofs.Common.{◌≡◌, ◌+◌, ◌-◌, length}
use Rattle.sums.proofs.MergeLaws.{Head}
use Rattle.sums.proofs.add_multiple.Given as goal

abbrev pub invariant-loop-left : goal.invariant-loop-left
invariant-loop-left l =
    let a = l.fn in (length l.out ≡ length a.out) × Head a.p a.c a.m a.g a.f l.out l.left l.i l.k

abbrev pub decreases-loop-left : goal.decreases-loop-left
decreases-loop-left l = (length l.f - l.i) + length l.left
