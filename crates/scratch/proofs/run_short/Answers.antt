-- The stretch ends as the run does, or pauses, and the long stretch goes on.
use Rattle.std.proofs.Common.{◌∙◌, arith}
use Rattle.scratch.proofs.StretchLaws.{Told, runs_from_0, stretch_ends, pause_within, pause_holds, stretch_goes_on}
use Rattle.scratch.proofs.run_short.Goals as goal

pub run_long-requires-clause-from_le_limit : goal.run_long-requires-clause-from_le_limit
run_long-requires-clause-from_le_limit c =
    let S : Told _ _ _ _ _ _ = record { same = c.run_in-steps.auto.work; answers = c.run_in-steps.ensures.stretches } in
    omega (arith, pause_within S c.in-None.is c.requires.ready)

pub run_long-requires-clause-ready : goal.run_long-requires-clause-ready
run_long-requires-clause-ready c =
    let S : Told _ _ _ _ _ _ = record { same = c.run_in-steps.auto.work; answers = c.run_in-steps.ensures.stretches } in
    pause_holds S c.in-None.is c.requires.ready

pub returns-in-Some : goal.returns-in-Some
returns-in-Some c =
    let S : Told _ _ _ _ _ _ = record { same = c.run_in-steps.auto.work; answers = c.run_in-steps.ensures.stretches } in
    record { ran = runs_from_0 _ _ _ _ _ (stretch_ends S c.in-Some.is); beyond_stays = c.run_in-steps.ensures.beyond_stays }

pub returns-in-None : goal.returns-in-None
returns-in-None c =
    let S : Told _ _ _ _ _ _ = record { same = c.run_in-steps.auto.work; answers = c.run_in-steps.ensures.stretches } in
    let r = c.run_long in
    record {
      ran = runs_from_0 _ _ _ _ _ (stretch_goes_on S c.in-None.is r.result r.new.work r.ensures.ran);
      beyond_stays = r.ensures.beyond_stays ∙ c.run_in-steps.ensures.beyond_stays;
    }
