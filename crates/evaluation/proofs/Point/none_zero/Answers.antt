use Rattle.std.proofs.Common.{◌∙◌, not, eqb, rules}
use Rattle.evaluation.proofs.ValueLaws.{tested, none_tested}
use Rattle.evaluation.proofs.Point.none_zero.Goals as goal

pub returns : goal.returns
returns c = λ fs e. tested (λ v. not (eqb v 0)) fs _ (c.all_pass.ensures fs e) (λ v b k. search rules) ∙ none_tested c.args.self.table.modulus c.args.self.residues.now fs
