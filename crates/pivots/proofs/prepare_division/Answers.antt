-- Another member of P is found, or the pivot is moved to T.
use Rattle.std.proofs.Common.{sym, ap, ◌∙◌, map}
use Rattle.polynomials.specs.Packed.{terms}
use Rattle.rules.specs.Branch.{other}
use Rattle.records.specs.Records.{view}
use Rattle.branches.specs.Area.{Stored, beyond}
use Rattle.branches.proofs.LengthLaws.{held_by}
use Rattle.pivots.proofs.AimLaws.{aims_at, aims_all}
use Rattle.pivots.proofs.prepare_division.Goals.{in-Some, in-None}
use Rattle.pivots.proofs.prepare_division.Goals as goal

pub count_q-requires : goal.count_q-requires
count_q-requires c =
    let o = c.requires.opened.0 in
    (_, _, _, held_by _ _ c.args.w.now c.close.new.w (sym c.close.auto.w) (c.close.ensures.open_becomes o.0 o.1 o.2 o.3))

pub returns : goal.returns
returns c =
    let a = c.args in
    let O = λ (b : Stored). other a.k a.place (map terms b.P) in
    record {
      when_open_3 = λ b bs ss H. elim c.match-find_other.branch [
        | in-Some w ↦
            aims_at a.k _ _ a.initial a.place b bs ss _ _ (O b) _ _ w.dividends-is (ap view w.w-is) (sym (c.find_other.ensures b bs ss H) ∙ w.in-Some.is)
            c.degree-degree.ensures H
        | in-None w ↦
            let moved = w.close.ensures.open_becomes b bs ss H in
            let there = held_by _ _ a.w.now w.close.new.w (sym w.close.auto.w) moved in
            aims_all a.k _ _ a.initial a.place b bs ss _ _ (O b) _ _ w.dividends-is (ap view w.w-is) (sym (c.find_other.ensures b bs ss H) ∙ w.in-None.is)
            c.degree-degree.ensures (w.count_q.ensures _ _ _ there) moved
      ];
      beyond_stays = elim c.match-find_other.branch [
        | in-Some w ↦ ap beyond w.w-is
        | in-None w ↦ ap beyond w.w-is ∙ w.close.ensures.beyond_stays
      ];
    }
