use Rattle.std.proofs.Common.{rules}
use Rattle.std.proofs.lemmas.Result.{MatchResult-weaker}
use Rattle.gathering_apart.proofs.EndedLaws.{buffers_suffice, large_ended}
use Rattle.gathering_apart.proofs.gather_large.Goals as goal

pub returns : goal.returns
returns c =
    let q = c.requires in
    large_ended _ _ c.gather_apart.result c.map_err.result c.gather_apart.new.x (buffers_suffice _ _ q.holds.0.few q.holds_2.0.few) c.gather_apart.ensures
    (MatchResult-weaker c.gather_apart.result c.map_err.ensures.cases (λ n k. k) (λ e k. search rules))
