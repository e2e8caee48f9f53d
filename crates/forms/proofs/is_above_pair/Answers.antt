-- `order` of packed monomials is the order of numbers.
use Rattle.std.proofs.Common.{◌∙◌, sym, rules, arith}
use Rattle.forms.proofs.HeldLaws.{above_no_pair, above_pair}
use Rattle.forms.proofs.is_above_pair.Goals as goal

pub returns-then-words-lt2 : goal.returns-then-words-lt2
returns-then-words-lt2 c = search rules ∙ sym (above_no_pair c.args.monomial c.args.words.now (omega (arith, c.if-words-lt2.true)))

pub returns-else-words-lt2 : goal.returns-else-words-lt2
returns-else-words-lt2 c = above_pair c.args.monomial c.args.words.now (omega arith) c.ranges.monomial.fits (search rules)
