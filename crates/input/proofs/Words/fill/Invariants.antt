-- Where the words are left in the buffer, those put so far are the first of them; and the last one stands before what is left.
use Rattle.std.proofs.Common.{◌≡◌, ◌-◌, ◌≤◌, ◌<◌, length, get_or}
use Rattle.input.specs.Input.{Enough, Before}
use Rattle.input.proofs.InputLaws.{Filling, from}
use Rattle.input.proofs.Words.fill.Given as goal

abbrev pub invariant-loop-i : goal.invariant-loop-i
invariant-loop-i g l = record {
  ordered : l.at ≤ l.self.end;
  filling : Enough (length l.fn.words) l.fn.self → Filling l.fn.self l.i (from l.at l.self) l.words;
  last : 0 < l.i → Before (get_or l.words (l.i - 1) 0) (from l.at l.self);
  capacity : length l.self.bytes ≡ length l.fn.self.bytes;
}
