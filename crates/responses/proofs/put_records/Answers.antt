use Rattle.std.proofs.Common.{arith, ◌≡◌, ◌+◌, ◌*◌, ◌-◌, drop, length, length-append, ap}
use Rattle.std.proofs.Math.ListN.{length-take}
use Rattle.responses.proofs.SaidLaws.{no_record, next_record}
use Rattle.responses.proofs.put_records.Goals as goal

pub loop-i-init : goal.loop-i-init
loop-i-init c = record { near = omega arith; added = no_record c.args.list.now c.args.text.now }

pub loop-i-preserved : goal.loop-i-preserved
loop-i-preserved c =
    let l = c.loop-i in
    let w = c.args.list.now in
    let k = 4 * l.i + 4 - 4 * l.i in
    let e = c.put_line.ensures in
    record {
      near = omega (arith, l.invariant.near, e.near, e.is.free, ap length e.is.bytes, length-append l.text.bytes, length-take k (drop (4 * l.i) w));
      added = next_record w l.i k (omega arith) l.invariant.added e.is;
    }

pub returns : goal.returns
returns c = let e : c.args.n ≡ c.loop-i.i = omega arith in rw e c.loop-i.invariant.added
