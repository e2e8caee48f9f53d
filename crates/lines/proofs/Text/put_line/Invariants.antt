use Rattle.lines.proofs.TextLaws.{LineBegun}
use Rattle.lines.proofs.Text.put_line.Given as goal

abbrev pub invariant-loop-number : goal.invariant-loop-number
invariant-loop-number l = LineBegun l.numbers l.fn.self l.rest l.number-index l.self
