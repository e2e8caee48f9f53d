use Rattle.std.proofs.Common.{◌≢◌, refl, arith, rules}
use Rattle.evaluation.proofs.ValueLaws.{value_start, value_end, value_inside, value_residue, value_less, value_next}
use Rattle.evaluation.proofs.Point.value_at.Goals as goal

pub loop-r-init : goal.loop-r-init
loop-r-init c =
    rw (c.step-r.ensures, c.new.ensures) (record {
      on_table = refl;
      still = value_start c.requires.record c.requires.read.1;
    })

pub add_term-v-requires-clause-term : goal.add_term-v-requires-clause-term
add_term-v-requires-clause-term c =
    let still = c.loop-r.invariant.still in
    let more : c.loop-r.r.at ≢ 0 = search rules in
    rw c.at.ensures (value_inside still more, value_residue still more)

pub step-r-requires-in-loop-r : goal.step-r-requires-in-loop-r
step-r-requires-in-loop-r c =
    let more : c.loop-r.r.at ≢ 0 = search rules in
    rw c.loop-r.invariant.on_table (value_inside c.loop-r.invariant.still more, omega arith)

pub loop-r-smaller : goal.loop-r-smaller
loop-r-smaller c =
    let more : c.loop-r.r.at ≢ 0 = search rules in
    rw (c.step-r-in-loop-r.ensures, c.loop-r.invariant.on_table) (value_less c.loop-r.invariant.still more)

pub loop-r-preserved : goal.loop-r-preserved
loop-r-preserved c =
    let more : c.loop-r.r.at ≢ 0 = search rules in
    rw (c.step-r-in-loop-r.ensures, c.add_term-v.ensures, c.at.ensures, c.loop-r.invariant.on_table) (record {
      on_table = refl;
      still = value_next c.loop-r.invariant.still more;
    })

pub returns : goal.returns
returns c = value_end c.loop-r.invariant.still (search rules)
