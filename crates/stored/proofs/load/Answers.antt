-- One term more is written, and what stands behind stays.
use Rattle.std.proofs.Common.{[], ◌∷◌, ◌++◌, ◌+◌, ◌∙◌, sym, arith}
use Rattle.std.proofs.lemmas.List.{take_more_set, drop-set-lt}
use Rattle.std.proofs.lemmas.Grind.{drop_more_same}
use Rattle.records.specs.Records.{view}
use Rattle.records.proofs.Rows.{length_view}
use Rattle.stored.proofs.Laws.{size_in, poly_more}
use Rattle.stored.proofs.load.Goals as goal

pub loop-i-preserved : goal.loop-i-preserved
loop-i-preserved c =
    let a = c.args in
    let l = c.loop-i in
    let x = c.term.result in
    let n = size_in a.w.now a.at in (
      take_more_set l.out l.i x (omega arith)
          ∙ (λ t. l.invariant.0 t ++ (c.term.ensures t ∷ []))
          ∙ sym (poly_more (view a.w.now) (a.at + 1) l.i (omega (arith, length_view a.w.now))),
      drop-set-lt (l.i + 1) l.out l.i x (omega arith) ∙ drop_more_same l.out a.out.now l.i l.invariant.1,
    )
