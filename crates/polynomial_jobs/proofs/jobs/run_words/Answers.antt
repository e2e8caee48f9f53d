-- The words were tested.
use Rattle.std.proofs.Common.{rules}
use Rattle.polynomial_jobs.proofs.Pairs.{few}
use Rattle.polynomial_jobs.proofs.jobs.run_words.Goals as goal

pub paired-requires : goal.paired-requires
paired-requires g c = few c.from-number.result c.args.f.now (search rules)

pub paired-requires-2 : goal.paired-requires-2
paired-requires-2 g c = few c.from-number.result c.args.g.now (search rules)
