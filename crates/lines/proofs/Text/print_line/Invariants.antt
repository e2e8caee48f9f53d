-- Where the line fits, the buffer is not emptied.
use Rattle.std.proofs.Common.{◌≡◌, ◌+◌, ◌*◌, ◌≤◌, length}
use Rattle.lines.specs.Written.{capacity}
use Rattle.lines.proofs.TextLaws.{LineBegun}
use Rattle.lines.proofs.Text.print_line.Given as goal

abbrev pub invariant-loop-next : goal.invariant-loop-next
invariant-loop-next g l = record {
  kept : capacity l.self ≡ capacity l.fn.self;
  line : 21 * length l.numbers + 128 ≤ l.fn.self.free → LineBegun l.numbers l.fn.self l.others l.next-index l.self;
}
