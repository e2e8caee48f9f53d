use Rattle.std.proofs.Common.{◌≢◌, refl, arith, rules}
use Rattle.evaluation.proofs.ValueLaws.{tests_start, tests_end, tests_inside, tests_read, tests_less, tests_next, tests_fail}
use Rattle.evaluation.proofs.Point.all_pass.Goals as goal

pub loop-r-init : goal.loop-r-init
loop-r-init g c =
    rw c.new-r.ensures (record {
      on_table = refl;
      still = tests_start c.requires.record c.requires.read.1;
    })

pub value_at-requires-clause-record : goal.value_at-requires-clause-record
value_at-requires-clause-record g c =
    let more : c.loop-r.r.at ≢ 0 = search rules in
    rw c.at.ensures (tests_inside c.loop-r.invariant.still more)

pub value_at-requires-clause-read : goal.value_at-requires-clause-read
value_at-requires-clause-read g c =
    let more : c.loop-r.r.at ≢ 0 = search rules in
    rw c.at.ensures (tests_read c.loop-r.invariant.still more)

pub returns-then-not-test : goal.returns-then-not-test
returns-then-not-test g c =
    let more : c.loop-r.r.at ≢ 0 = search rules in
    tests_fail c.loop-r.invariant.still more (rw c.at.ensures at c.value_at.ensures) (rw c.if-not-test.true at c.test.ensures)

pub step-r-requires : goal.step-r-requires
step-r-requires g c =
    let more : c.loop-r.r.at ≢ 0 = search rules in
    rw c.loop-r.invariant.on_table (tests_inside c.loop-r.invariant.still more, omega arith)

pub loop-r-smaller : goal.loop-r-smaller
loop-r-smaller g c =
    let more : c.loop-r.r.at ≢ 0 = search rules in
    rw (c.step-r.ensures, c.loop-r.invariant.on_table) (tests_less c.loop-r.invariant.still more)

pub loop-r-preserved : goal.loop-r-preserved
loop-r-preserved g c =
    let more : c.loop-r.r.at ≢ 0 = search rules in
    rw (c.step-r.ensures, c.loop-r.invariant.on_table) (record {
      on_table = refl;
      still = tests_next c.loop-r.invariant.still more (rw c.at.ensures at c.value_at.ensures) (rw c.if-not-test.false at c.test.ensures);
    })

pub returns : goal.returns
returns g c = tests_end c.loop-r.invariant.still (search rules)
