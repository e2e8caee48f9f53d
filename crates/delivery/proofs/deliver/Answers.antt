-- The list as it was written, and the bounds of what is read for it: each system that the work area holds was listed.
use Rattle.std.proofs.Common.{arith}
use Rattle.tables.specs.laws.Accepted.{table_read}
use Rattle.tables.specs.laws.Chains.{readable_words}
use Rattle.delivery.proofs.DeliverLaws.{listed_known}
use Rattle.delivery.proofs.AnswerLaws.{left_systems, list_written}
use Rattle.delivery.proofs.deliver.Goals as goal

pub bounds-table-0 : goal.bounds-table-0
bounds-table-0 c = omega (arith, readable_words (table_read c.args.table.now c.requires.0 c.requires.2).readable)

pub bounds-table-1 : goal.bounds-table-1
bounds-table-1 c = omega (arith, readable_words (table_read c.args.table.now c.requires.0 c.requires.2).readable)

pub write_list-requires-clause-ss_in_bounds : goal.write_list-requires-clause-ss_in_bounds
write_list-requires-clause-ss_in_bounds c ss H =
    let left = left_systems c.requires.3 c.in-Systems.is in
    let listed = listed_known left.1 H left.2 in (omega (arith, c.list_size.ensures ss H listed, c.if-output-list_size.false), listed)

pub returns : goal.returns
returns c t e h x =
    let r = table_read c.args.table.now t h in
    list_written t _ c.list_size.result _ _ c.args.output.now _ x c.in-Systems.is c.list_size.ensures c.if-output-list_size.false
    r.modulus r.variables c.write_list.ensures
