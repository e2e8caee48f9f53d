-- The polynomials from place j on end where all do and are canonical; the scan of them finds what the scan of all does.
use Rattle.std.proofs.Common.{◌≡◌, ℕ, ◌-◌}
use Rattle.records.specs.Records.{view}
use Rattle.stored.specs.Stored.{skip_to, polys_at}
use Rattle.heads.specs.Heads.{AllHold}
use Rattle.heads.proofs.Walk.{all_at}
use Rattle.search.proofs.Others.{scan}
use Rattle.search.proofs.other_from.Given as goal

abbrev pub invariant-loop-j : goal.invariant-loop-j
invariant-loop-j l =
    let v = view l.w in
    let left = l.k - l.j in
    record {
      ends : skip_to v l.next left ≡ skip_to v l.at l.k;
      found : scan l.v l.place l.j (all_at v l.next left) ≡ scan l.v l.place 0 (all_at v l.at l.k);
      hold : (p : ℕ) × AllHold p (polys_at v l.next left);
    }
