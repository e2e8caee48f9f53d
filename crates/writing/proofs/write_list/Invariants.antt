-- From record `end` on stand the systems walked over, in list order, and `next` is their index.
use Rattle.std.proofs.Common.{◌≡◌, ◌-◌, List, [], length}
use Rattle.records.specs.Records.{view}
use Rattle.branches.specs.Area.{Stored, HeldIn}
use Rattle.writing.proofs.Walk.{Walked}
use Rattle.writing.proofs.write_list.Given as goal

abbrev pub invariant-loop-i : goal.invariant-loop-i
invariant-loop-i l =
    record {
      same : length l.out ≡ length l.fn.out;
      walked : (ss : List Stored) → HeldIn l.w (record { branches = []; systems = ss })
          → Walked (view l.w) ss l.initial.out l.out l.i l.end l.next (l.count - l._i);
    }
