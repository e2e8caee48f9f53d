use Rattle.std.proofs.Common.{◌∙◌}
use Rattle.forms.proofs.HeldLaws.{same_terms}
use Rattle.forms.proofs.is_same.Goals as goal

pub returns : goal.returns
returns c = c.eq.ensures ∙ same_terms c.args.t c.args.u c.well_formed.0.1.1.1.0.1 c.well_formed.1.0.1.1.1.0.1
