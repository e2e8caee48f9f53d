-- In scratch so long the run does not pause, so its stretch ends as the run does.
use Rattle.scratch.proofs.StretchLaws.{Told, stretch_ends, long_ends}
use Rattle.scratch.proofs.run_long.Goals as goal

pub returns : goal.returns
returns c =
    let S : Told _ _ _ _ _ _ = record { same = c.run_in-steps.auto.work; answers = c.run_in-steps.ensures.stretches } in
    record { ran = stretch_ends S (long_ends _ _ c.run_in-steps.ensures.when_paused c.unwrap_or.ensures); beyond_stays = c.run_in-steps.ensures.beyond_stays }
