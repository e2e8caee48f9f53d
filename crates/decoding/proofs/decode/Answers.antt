use Rattle.std.proofs.Common.{arith, ◌∙◌}
use Rattle.std.proofs.Math.Seq.{drop-set-lt}
use Rattle.decoding.proofs.DecodeLaws.{words_from-put}
use Rattle.decoding.proofs.decode.Goals as goal

pub loop-i-preserved : goal.loop-i-preserved
loop-i-preserved c =
    let l = c.loop-i in
    record {
      decoded = words_from-put c.args.bytes.now l.i l.words c.word_at.result (omega arith) c.word_at.ensures l.invariant.decoded;
      others = drop-set-lt _ l.words l.i c.word_at.result c.loop-i-test.true ∙ l.invariant.others;
    }
