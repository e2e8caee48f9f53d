use Rattle.std.proofs.Common.{◌≢◌, refl, arith, rules}
use Rattle.tables.specs.laws.Chains.{whole_records}
use Rattle.words.proofs.Laws.{first_record}
use Rattle.lists.proofs.ListLaws.{placed_first, placed_none, placed_at, placed_inside, placed_less, placed_solved, placed_on}
use Rattle.lists.proofs.first_solved.Goals as goal

pub step-r-requires : goal.step-r-requires
step-r-requires c = rw c.new.ensures (first_record c.args.point.table, omega arith)

pub loop-r-init : goal.loop-r-init
loop-r-init c =
    rw (c.step-r.ensures, c.new.ensures) (record {
      on_table = refl;
      still = placed_first c.args.point.table c.args.point.residues.now c.requires.read.1;
    })

pub is_solved-requires-clause-record : goal.is_solved-requires-clause-record
is_solved-requires-clause-record c =
    let more : c.loop-r.r.at ≢ 0 = search rules in
    rw c.at.ensures (placed_inside c.loop-r.invariant.still more).1

pub is_solved-requires-clause-read : goal.is_solved-requires-clause-read
is_solved-requires-clause-read c =
    let more : c.loop-r.r.at ≢ 0 = search rules in
    rw c.at.ensures (placed_at c.loop-r.invariant.still more)

pub returns-then-is_solved : goal.returns-then-is_solved
returns-then-is_solved c =
    let more : c.loop-r.r.at ≢ 0 = search rules in
    placed_solved c.loop-r.invariant.still more (rw c.at.ensures at c.is_solved.ensures) c.if-is_solved.true

pub overflow_add-place : goal.overflow_add-place
overflow_add-place c =
    let more : c.loop-r.r.at ≢ 0 = search rules in
    let inside = placed_inside c.loop-r.invariant.still more in
    let t = c.args.point.table in
    omega (arith, inside, (whole_records t.words.now t.readable.whole).2)

pub step-r-requires-in-loop-r : goal.step-r-requires-in-loop-r
step-r-requires-in-loop-r c =
    let more : c.loop-r.r.at ≢ 0 = search rules in
    rw c.loop-r.invariant.on_table ((placed_inside c.loop-r.invariant.still more).1, omega arith)

pub loop-r-smaller : goal.loop-r-smaller
loop-r-smaller c =
    let more : c.loop-r.r.at ≢ 0 = search rules in
    rw (c.step-r-in-loop-r.ensures, c.loop-r.invariant.on_table) (placed_less c.loop-r.invariant.still more)

pub loop-r-preserved : goal.loop-r-preserved
loop-r-preserved c =
    let more : c.loop-r.r.at ≢ 0 = search rules in
    rw (c.step-r-in-loop-r.ensures, c.loop-r.invariant.on_table) (record {
      on_table = refl;
      still = placed_on c.loop-r.invariant.still more (rw c.at.ensures at c.is_solved.ensures) c.if-is_solved.false;
    })

pub returns : goal.returns
returns c = placed_none c.loop-r.invariant.still (search rules)
