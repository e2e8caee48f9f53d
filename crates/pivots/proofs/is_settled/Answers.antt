-- Of f other than 1 `q_contains` answers.
use Rattle.std.proofs.Common.{sym, ap, ◌∙◌, Bool, ◌||◌}
use Rattle.stored.specs.Stored.{member}
use Rattle.pivots.proofs.is_settled.Goals as goal

pub returns-else-is_one : goal.returns-else-is_one
returns-else-is_one c b bs ss H =
    let f = c.args.f.now in
    c.q_contains.ensures b bs ss H ∙ sym (ap (λ (o : Bool). o || member f b.Q) (sym c.is_one.ensures ∙ c.if-is_one.false))
