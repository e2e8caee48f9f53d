use Rattle.std.proofs.Common.{◌≡◌, bit_or, arith, rules}
use Rattle.std.specs.List.{fold}
use Rattle.degrees.proofs.DegreeLaws.{or_degree}
use Rattle.degrees.proofs.union.Goals as goal

pub returns : goal.returns
returns c =
    let r : c.fold.result ≡ fold (λ a t. bit_or a t.monomial) 0 c.args.f.now = search rules in
    λ k. rw r (omega (arith, or_degree 0 k c.args.f.now))
