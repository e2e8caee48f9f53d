-- The records from the system's first to where its polynomials end.
use Rattle.std.proofs.Common.{arith}
use Rattle.writing.proofs.Systems.{found}
use Rattle.writing.proofs.system_size.Goals as goal

pub skip-requires : goal.skip-requires
skip-requires c = let f = found c.args.w.now c.args.i c.requires.0 c.requires.1 in omega arith

pub overflow_sub-result : goal.overflow_sub-result
overflow_sub-result c = let f = found c.args.w.now c.args.i c.requires.0 c.requires.1 in omega arith

pub returns : goal.returns
returns c s h = let f = found c.args.w.now c.args.i s h in omega arith
