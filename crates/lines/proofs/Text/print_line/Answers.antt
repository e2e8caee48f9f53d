-- Where the line fits, `room` leaves the text as it is.
use Rattle.std.proofs.Common.{refl, ◌∙◌, arith}
use Rattle.lines.proofs.TextLaws.{capacity-Adds, line_none, line_first, line_next, line_end}
use Rattle.lines.proofs.Text.print_line.Goals as goal

pub returns-in_default-clause-line_added : goal.returns-in_default-clause-line_added
returns-in_default-clause-line_added g c = λ fits.
    let same = (c.room.ensures.kept (omega arith)).1 in
    (refl, line_none _ c.in_default.ensures.cases (rw same at c.put_byte.ensures))

pub loop-next-init : goal.loop-next-init
loop-next-init g c =
    let put = c.put_number.ensures in
    record {
      kept = capacity-Adds put.value ∙ c.room.ensures.capacity;
      line = λ fits.
          let same = (c.room.ensures.kept (omega arith)).1 in
          line_first c.in-Some.ensures.cases c.from.ensures (rw same at put.value) (rw same at put.upper_bound);
    }

pub loop-next-preserved : goal.loop-next-preserved
loop-next-preserved g c =
    let l = c.loop-next in
    let put = c.put_next.ensures in
    record {
      kept = capacity-Adds put.value ∙ c.room-in-loop-next.ensures.capacity ∙ l.invariant.kept;
      line = λ fits.
          let begun = l.invariant.line fits in
          let same = (c.room-in-loop-next.ensures.kept (omega (arith, begun.near, begun.kept, c.in-Some.ensures.cases.1))).1 in
          line_next l.next-index c.loop-next-test.true begun (rw same at put.value) (rw same at put.upper_bound);
    }

pub returns-clause-line_added : goal.returns-clause-line_added
returns-clause-line_added g c = λ fits.
    let l = c.loop-next in
    let begun = l.invariant.line fits in
    let same = (c.room-2.ensures.kept (omega (arith, begun.near, begun.kept, c.in-Some.ensures.cases.1))).1 in
    (refl, line_end l.next-index c.in-Some.ensures.cases c.loop-next-test.false (omega arith) begun (rw same at c.put_byte-2.ensures))
