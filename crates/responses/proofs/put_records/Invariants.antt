-- The lines so far are added, none of them longer than 85 bytes.
use Rattle.std.proofs.Common.{◌+◌, ◌*◌, ◌≤◌}
use Rattle.lines.specs.Written.{Adds}
use Rattle.responses.specs.Said.{records_text}
use Rattle.responses.proofs.put_records.Given as goal

abbrev pub invariant-loop-i : goal.invariant-loop-i
invariant-loop-i l = record {
  near : l.fn.text.free ≤ l.text.free + 85 * l.i;
  added : Adds (records_text l.list 0 l.i) l.fn.text l.text;
}
