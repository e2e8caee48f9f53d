-- The T chain and the U chain of the system that was read.
use Rattle.lists.proofs.ListLaws.{zeros, nonzeros}
use Rattle.lists.proofs.is_solved.Goals as goal

pub all_zero-requires-clause-read : goal.all_zero-requires-clause-read
all_zero-requires-clause-read c = let s = c.requires.read in rw c.word.ensures (s.0.T, zeros c.args.point.table c.args.i s.0 s.1)

pub none_zero-requires-clause-read : goal.none_zero-requires-clause-read
none_zero-requires-clause-read c = let s = c.requires.read in rw c.word-then-all_zero.ensures (s.0.U, nonzeros c.args.point.table c.args.i s.0 s.1)
