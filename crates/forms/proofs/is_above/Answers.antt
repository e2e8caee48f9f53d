-- `order` of packed monomials is the order of numbers.
use Rattle.std.proofs.Common.{◌∙◌, sym, rules}
use Rattle.forms.proofs.HeldLaws.{above_none, above_first}
use Rattle.forms.proofs.is_above.Goals as goal

pub returns-then-is_empty : goal.returns-then-is_empty
returns-then-is_empty c = let h = c.if-is_empty.ensures in c.if-is_empty.true ∙ sym (above_none c.args.monomial c.args.f.now (search rules))

pub returns-else-is_empty : goal.returns-else-is_empty
returns-else-is_empty c =
    let h = c.if-is_empty.ensures in
    above_first c.args.monomial c.args.f.now _ (search rules) c.ranges.monomial.fits c.if-is_empty.element_fits.fits
