-- The systems lie from where they start to the end of the work area.
use Rattle.std.proofs.Common.{arith}
use Rattle.branches.proofs.ControlLaws.{top_inside}
use Rattle.delivery.proofs.DeliverLaws.{records_needed}
use Rattle.delivery.proofs.list_size.Goals as goal

pub overflow_sub-result : goal.overflow_sub-result
overflow_sub-result c = let h = c.requires.1 in omega (arith, top_inside h (c.listed_systems-listed.ensures _ h), c.count_records.ensures)

pub returns : goal.returns
returns c ss H l = rw c.count_records.ensures (records_needed H (c.listed_systems-listed.ensures _ H) l)
