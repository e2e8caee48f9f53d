-- The tests that were passed are what a readable table has.
use Rattle.std.proofs.Common.{◌∙◌, sym}
use Rattle.reading.proofs.ReadLaws.{readable_header, good_header}
use Rattle.reading.proofs.check_header.Goals as goal

pub invariant_of-result : goal.invariant_of-result
invariant_of-result c =
    let prime = sym c.is_prime.ensures ∙ c.if-not-is_prime.false in
    let good = good_header c.args.words.now c.if-words-ne0.false c.if-words-eq0.false c.if-words-gt262144.false prime c.if-variables-lt1.false c.if-variables-gt8.false in
    record { readable = readable_header c.args.words.now (sym good) }
