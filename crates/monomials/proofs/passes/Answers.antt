-- `any` tells of the eight sums of exponents.
use Rattle.std.proofs.Common.{◌<◌, ◌≤◌, refl, rules, tests}
use Rattle.std.proofs.lemmas.Iterator.{cases_from_any, YieldsList-from_range}
use Rattle.monomials.proofs.ExponentLaws.{sum_at, passes_told}
use Rattle.monomials.proofs.passes.Goals as goal

pub returns : goal.returns
returns c =
    let a = c.args.a in
    let b = c.args.b in
    passes_told 255 a b _ (cases_from_any _ _ _ (λ k. 255 < sum_at 255 a b k) (λ k. sum_at 255 a b k ≤ 255) c.any.ensures.ran
    (YieldsList-from_range 0 8 8 refl refl)
    (λ x q k. search (rules, tests))
    (λ x q k. search (rules, tests)))
