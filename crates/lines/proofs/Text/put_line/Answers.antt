use Rattle.std.proofs.Common.{arith}
use Rattle.lines.proofs.TextLaws.{line_none, line_first, line_next, line_end}
use Rattle.lines.proofs.Text.put_line.Goals as goal

pub returns-in_default : goal.returns-in_default
returns-in_default c = line_none _ c.in_default.ensures.cases c.put_byte.ensures

pub loop-number-init : goal.loop-number-init
loop-number-init c = line_first c.in-Some.ensures.cases c.from.ensures c.put_number.ensures.value c.put_number.ensures.upper_bound

pub loop-number-preserved : goal.loop-number-preserved
loop-number-preserved c =
    let l = c.loop-number in
    line_next l.number-index c.loop-number-test.true l.invariant c.put_next.ensures.value c.put_next.ensures.upper_bound

pub returns : goal.returns
returns c = line_end c.loop-number.number-index c.in-Some.ensures.cases c.loop-number-test.false (omega arith) c.loop-number.invariant c.put_byte-2.ensures
