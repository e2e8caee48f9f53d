-- The polynomials that are left end where all do, and one of them is zero where one of all is.
use Rattle.std.proofs.Common.{◌≡◌, ◌-◌}
use Rattle.records.specs.Records.{view}
use Rattle.stored.specs.Stored.{skip_to}
use Rattle.rules.specs.Branch.{some_zero}
use Rattle.heads.proofs.Walk.{all_at}
use Rattle.heads.proofs.has_zero.Given as goal

abbrev pub invariant-loop-i : goal.invariant-loop-i
invariant-loop-i l =
    let v = view l.w in
    let left = l.k - l._i in
    record {
      ends : skip_to v l.next left ≡ skip_to v l.at l.k;
      same : some_zero (all_at v l.next left) ≡ some_zero (all_at v l.at l.k);
    }
