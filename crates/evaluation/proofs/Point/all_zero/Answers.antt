use Rattle.std.proofs.Common.{◌∙◌, eqb, rules}
use Rattle.evaluation.proofs.ValueLaws.{tested, all_tested}
use Rattle.evaluation.proofs.Point.all_zero.Goals as goal

pub returns : goal.returns
returns c = λ fs e. tested (λ v. eqb v 0) fs _ (c.all_pass.ensures fs e) (λ v b k. search rules) ∙ all_tested c.args.self.table.modulus c.args.self.residues.now fs
