-- A turn writes one term before the rest. No answer names a test, so that an edit of one is refused for what it means.
use Rattle.std.proofs.Common.{◌+◌, ◌-◌, get_or, [], arith}
use Rattle.stored.proofs.Laws.{size_in}
use Rattle.chains.proofs.Laws.{terms_on}
use Rattle.chains.proofs.write_terms.Goals as goal

pub loop-i-preserved : goal.loop-i-preserved
loop-i-preserved c =
    let a = c.args in
    let l = c.loop-i in
    let n = get_or (get_or a.w.now a.from []) 0 0 in
    record {
      same = omega arith;
      whole = grind (arith, size_in, terms_on a.w.now l.out c.write.new.words (a.to + l.i) (a.from + 1 + l.i) (n - l.i) c.if-i-n.next);
    }
