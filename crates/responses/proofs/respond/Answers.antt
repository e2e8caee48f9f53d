use Rattle.std.proofs.Common.{◌/◌, length, take, sym}
use Rattle.responses.proofs.ResponseLaws.{too_long, broken, whole_words, refused, answered}
use Rattle.responses.proofs.respond.Goals as goal

pub returns-then-bytes-gt-LONGEST-clause-response_made : goal.returns-then-bytes-gt-LONGEST-clause-response_made
returns-then-bytes-gt-LONGEST-clause-response_made c =
    let b = c.args.bytes.now in
    refused b (too_long b c.if-bytes-gt-LONGEST.true) c.put_line.ensures.is

pub returns-then-bytes-ne0-clause-response_made : goal.returns-then-bytes-ne0-clause-response_made
returns-then-bytes-ne0-clause-response_made c =
    let b = c.args.bytes.now in
    refused b (broken b c.if-bytes-ne0.true) c.put_line-then-bytes-ne0.ensures.is

pub returns-clause-response_made : goal.returns-clause-response_made
returns-clause-response_made c =
    let a = c.args in
    let b = a.bytes.now in
    let e = c.eliminate-answer.ensures in
    answered b (take (length b / 4) c.decode.new.words) a.output.now (length a.work.now) (length a.output.now)
    (whole_words b c.if-bytes-gt-LONGEST.false c.if-bytes-ne0.false) c.decode.ensures.words_after (sym c.requires.1) (sym c.requires.2)
    e.answer e.output_is c.put_answer.ensures
