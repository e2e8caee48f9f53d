-- The polynomials from place j on end where all do and are canonical; the pass over them, with the best so far at `place`, finds what the pass
-- over all does.
use Rattle.std.proofs.Common.{◌≡◌, ℕ, ◌-◌}
use Rattle.records.specs.Records.{view}
use Rattle.stored.specs.Stored.{skip_to, polys_at}
use Rattle.heads.specs.Heads.{AllHold}
use Rattle.heads.proofs.Walk.{all_at}
use Rattle.search.proofs.Pass.{passed}
use Rattle.search.proofs.pivot_place.Given as goal

abbrev pub invariant-loop-j : goal.invariant-loop-j
invariant-loop-j l =
    let v = view l.w in
    let left = l.k - l.j in
    record {
      ends : skip_to v l.next left ≡ skip_to v l.at l.k;
      found : passed l.v l.place l.least l.j (all_at v l.next left) ≡ passed l.v 0 131072 0 (all_at v l.at l.k);
      hold : (p : ℕ) × AllHold p (polys_at v l.next left);
    }
