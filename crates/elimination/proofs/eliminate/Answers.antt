-- A refusal of reading as it is, else the accepted table eliminated; and the work area cleared.
use Rattle.std.proofs.Common.{sym, ap, ◌∙◌, ◌/◌, ℕ, length, replicate, arith}
use Rattle.rules.specs.Eliminate.{Eliminated, output_after}
use Rattle.rules.proofs.laws.Calls.{call_not_read, call_read}
use Rattle.tables.specs.Read.{read_table}
use Rattle.tables.specs.laws.Chains.{checked_refused}
use Rattle.delivery.specs.Answer.{answer_of}
use Rattle.elimination.proofs.WholeLaws.{in_words}
use Rattle.elimination.proofs.eliminate.Goals.{in-Ok, in-Err}
use Rattle.elimination.proofs.eliminate.Goals as goal

pub returns : goal.returns
returns c =
    let a = c.args in
    let cleared = c.fill.ensures.after (λ y e. e) ∙ ap (λ (n : ℕ). replicate n 0) c.match-read_table.auto.work in
    elim c.match-read_table.branch [
      | in-Ok w ↦
          let read = w.in-Ok.ensures.ok in
          let is_delivered = call_read a.table.now (length a.work.now) (length a.output.now) a.limit read.1.0 read.1.1 in
          let d =
          in_words a.work.now _ (length a.output.now / 4) a.limit read.1.0 (omega (arith, w.area.ensures.length))
          (w.eliminate_accepted-answer.ensures.delivered read.1.0 (rw read.0.words read.1.1)) in
          record {
            answer = w.answer-is ∙ d.answer ∙ sym (ap answer_of is_delivered);
            output_is = w.output-is ∙ d.output ∙ sym (ap (λ (d : Eliminated). output_after d a.output.now) is_delivered);
            cleared = cleared;
          }
      | in-Err w ↦
          let refused =
          call_not_read a.table.now (length a.work.now) (length a.output.now) a.limit _ _
          (checked_refused (read_table a.table.now) (sym w.in-Err.ensures.err)) in
          record {
            answer = w.answer-is ∙ sym (ap answer_of refused);
            output_is = w.output-is ∙ sym (ap (λ (d : Eliminated). output_after d a.output.now) refused);
            cleared = cleared;
          }
    ]
