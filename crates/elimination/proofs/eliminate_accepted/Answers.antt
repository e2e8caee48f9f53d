-- The start, the run from its state, and the run delivered. All is said of the records that there were at entry.
use Rattle.std.proofs.Common.{refl, ◌∙◌, ◌/◌, length, arith}
use Rattle.records.specs.Records.{view}
use Rattle.branches.specs.Area.{used}
use Rattle.branches.proofs.LengthLaws.{same_used}
use Rattle.rules.specs.Run.{run_of}
use Rattle.representation.specs.Ready.{limits_in}
use Rattle.words.proofs.Accepted.{chains_read}
use Rattle.elimination.proofs.WholeLaws.{no_room, refused_leaves, run_leaves, started_in_two, begins, run_is}
use Rattle.elimination.proofs.eliminate_accepted.Goals as goal

pub returns-in-Err-clause-delivered : goal.returns-in-Err-clause-delivered
returns-in-Err-clause-delivered c t e =
    let a = c.args in
    no_room t (used a.work.now) a.limit c.start.result (view c.start.new.work) (c.start.ensures.started t e) (length a.output.now / 4) a.output.now c.in-Err.why c.in-Err.is

pub returns-in-Err-clause-worked : goal.returns-in-Err-clause-worked
returns-in-Err-clause-worked c t e =
    refused_leaves t (used c.args.work.now) c.args.limit c.start.result (view c.start.new.work) (c.start.ensures.started t e) c.in-Err.why c.in-Err.is

pub run_started-ran-requires-clause-ready : goal.run_started-ran-requires-clause-ready
run_started-ran-requires-clause-ready c =
    let s = c.start in
    let q = c.requires.accepted in
    begins q.0 (used c.args.work.now) c.args.limit _ (view s.new.work) (c.in_default.ensures.started q.0 q.1) refl (chains_read c.requires.header q.1).modulus
    (same_used _ _ s.auto.work)

pub deliver-requires : goal.deliver-requires
deliver-requires c =
    let most = used c.args.work.now in
    let s = c.start in
    let r = c.run_started-ran in
    let q = c.requires.accepted in (
      q.0,
      run_of (limits_in most) c.args.limit q.0,
      q.1,
      run_is q.0 most c.args.limit _ (view s.new.work) (c.in_default.ensures.started q.0 q.1) refl (chains_read c.requires.header q.1).modulus (same_used _ _ s.auto.work)
          (same_used _ _ (r.auto.work ∙ s.auto.work)) r.ensures.ran,
    )

pub returns-clause-delivered : goal.returns-clause-delivered
returns-clause-delivered c t e =
    let most = used c.args.work.now in
    let s = c.start in
    let r = c.run_started-ran in
    c.deliver.ensures t (run_of (limits_in most) c.args.limit t) e
    (run_is t most c.args.limit _ (view s.new.work) (c.in_default.ensures.started t e) refl (chains_read c.requires.header e).modulus (same_used _ _ s.auto.work)
    (same_used _ _ (r.auto.work ∙ s.auto.work)) r.ensures.ran)

pub returns-clause-worked : goal.returns-clause-worked
returns-clause-worked c t e =
    let most = used c.args.work.now in
    let s = c.start in
    let run =
    run_is t most c.args.limit _ (view s.new.work) (c.in_default.ensures.started t e) refl (chains_read c.requires.header e).modulus (same_used _ _ s.auto.work) refl
    c.run_started-ran.ensures.ran in
    run_leaves t most c.args.limit _ (view s.new.work) (c.in_default.ensures.started t e) refl run.left

pub returns-clause-too_small : goal.returns-clause-too_small
returns-clause-too_small c h =
    let q = c.requires.accepted in
    absurd (omega (arith, h, started_in_two q.0 (used c.args.work.now) c.args.limit _ (view c.start.new.work) (c.in_default.ensures.started q.0 q.1) refl))
