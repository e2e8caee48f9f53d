-- The polynomials that are left end where all do and are canonical; the highest of `best` and their leading variables is that of all.
use Rattle.std.proofs.Common.{◌≡◌, ℕ, ◌-◌, max}
use Rattle.records.specs.Records.{view}
use Rattle.stored.specs.Stored.{skip_to, polys_at}
use Rattle.rules.specs.Branch.{highest_leader}
use Rattle.heads.specs.Heads.{AllHold}
use Rattle.heads.proofs.Walk.{all_at}
use Rattle.heads.proofs.highest_leader.Given as goal

abbrev pub invariant-loop-i : goal.invariant-loop-i
invariant-loop-i l =
    let v = view l.w in
    let left = l.k - l._i in
    record {
      ends : skip_to v l.next left ≡ skip_to v l.at l.k;
      best : max l.best (highest_leader (all_at v l.next left)) ≡ highest_leader (all_at v l.at l.k);
      hold : (p : ℕ) × AllHold p (polys_at v l.next left);
    }
