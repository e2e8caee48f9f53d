-- The count is that of the first terms that have the power of the very first.
use Rattle.std.proofs.Common.{◌≡◌, sym, ◌∙◌, ap, subst, rules, tests}
use Rattle.std.specs.List.{prefix_len}
use Rattle.std.proofs.lemmas.Iterator.{YieldsList-from_slice}
use Rattle.std.proofs.lemmas.Iterator.Consumers.{count_from_yields_List}
use Rattle.std.proofs.lemmas.Iterator.Search.{YieldsList-from_take_while}
use Rattle.std.proofs.lemmas.List.Folds.{length-prefix_len}
use Rattle.polynomials.specs.Working.{Split}
use Rattle.terms.proofs.PartLaws.{led_some, is_power, top_first, split_prefix}
use Rattle.terms.proofs.initial_terms.Goals as goal

pub bounds-f-0 : goal.bounds-f-0
bounds-f-0 c = led_some c.args.k c.args.f.now c.requires.canonical

pub returns : goal.returns
returns c =
    let k = c.args.k in
    let s = c.args.f.now in
    let L = c.requires.canonical in
    let test = is_power k c.exponent-top.result in
    let n : c.count.result ≡ prefix_len test s = count_from_yields_List c.take_while.result _ c.count.ensures.ran (YieldsList-from_take_while _ test (YieldsList-from_slice s (cc)) c.take_while.ensures.closure c.take_while.ensures.done (λ x b q k. search (rules, tests))) ∙ length-prefix_len test s in
    subst (Split k s) (sym (n ∙ ap (λ d. prefix_len (is_power k d) s) (c.exponent-top.ensures ∙ top_first k s L))) (split_prefix k s L)
