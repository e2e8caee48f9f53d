-- The monomials or-ed tell of most polynomials; else `any` tells of eight sums of degrees.
use Rattle.std.proofs.Common.{◌<◌, ◌≤◌, sym, ◌∙◌, rules, tests, refl}
use Rattle.std.proofs.lemmas.Iterator.{cases_from_any, YieldsList-from_range}
use Rattle.polynomials.specs.Packed.{terms}
use Rattle.degrees.proofs.DegreeLaws.{unions_within, sum_at, degrees_told}
use Rattle.degrees.proofs.degrees_over.Goals as goal

pub returns-then-passes : goal.returns-then-passes
returns-then-passes c =
    let f = c.args.f.now in
    let g = c.args.g.now in
    degrees_told 255 f g _ (cases_from_any _ _ _ (λ k. 255 < sum_at 255 f g k) (λ k. sum_at 255 f g k ≤ 255) c.any.ensures.ran
    (YieldsList-from_range 0 8 8 refl refl)
    (λ x q k. search (rules, tests))
    (λ x q k. search (rules, tests)))

pub returns-else-passes : goal.returns-else-passes
returns-else-passes c =
    c.if-passes.false ∙ sym (unions_within 255 c.union-u.result c.union-v.result (terms c.args.f.now) (terms c.args.g.now)
    c.union-u.ensures c.union-v.ensures (sym c.passes.ensures ∙ c.if-passes.false))
