-- The polynomials that are left end where all do, and f is among them where it is among all.
use Rattle.std.proofs.Common.{◌≡◌, ◌-◌}
use Rattle.records.specs.Records.{view}
use Rattle.stored.specs.Stored.{skip_to, polys_at, member}
use Rattle.finding.proofs.contains.Given as goal

abbrev pub invariant-loop-i : goal.invariant-loop-i
invariant-loop-i l =
    (skip_to (view l.w) l.next (l.k - l._i) ≡ skip_to (view l.w) l.at l.k)
    × (member l.f (polys_at (view l.w) l.next (l.k - l._i)) ≡ member l.f (polys_at (view l.w) l.at l.k))
