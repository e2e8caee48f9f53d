use Rattle.std.proofs.Common.{◌∙◌, ap, rules, tests}
use Rattle.std.specs.Option.{unwrap_or}
use Rattle.std.proofs.lemmas.Iterator.{YieldsList-from_slice, YieldsList-from_map}
use Rattle.std.proofs.lemmas.Iterator.Consumers.{reduce_from_yields_List}
use Rattle.degrees.proofs.DegreeLaws.{exponent_at, max_degree}
use Rattle.degrees.proofs.degree.Goals as goal

pub returns : goal.returns
returns c =
    let k = c.args.k in
    let f = c.args.f.now in
    c.unwrap_or.ensures
    ∙ ap (λ o. unwrap_or o 0) (reduce_from_yields_List _ c.map.result _ c.max.ensures.ran (YieldsList-from_map _ (exponent_at k) (YieldsList-from_slice f cc) c.map.ensures.closure (λ x b q k. search (rules, tests))))
    ∙ max_degree k f
