-- `all` of the pairs says what `equal` says of the polynomials.
use Rattle.std.proofs.Common.{◌∙◌, rules, tests}
use Rattle.std.proofs.lemmas.Iterator.{YieldsList-from_slice, YieldsList-from_zip}
use Rattle.std.proofs.lemmas.Iterator.Search.{all_from_yields_List}
use Rattle.forms.proofs.HeldLaws.{alike, equal_pairs, other_lengths}
use Rattle.forms.proofs.equal.Goals as goal

pub returns-then-f-g : goal.returns-then-f-g
returns-then-f-g c =
    let f = c.args.f.now in
    let g = c.args.g.now in
    all_from_yields_List alike c.all.new.self _ _ c.all.ensures.ran (YieldsList-from_zip (YieldsList-from_slice f (search rules)) (YieldsList-from_slice g (search rules))) (λ x b q k. search (rules, tests))
    ∙ equal_pairs f g c.if-f-g.true

pub returns-else-f-g : goal.returns-else-f-g
returns-else-f-g c = other_lengths c.args.f.now c.args.g.now c.if-f-g.false
