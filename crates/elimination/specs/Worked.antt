-- What the work area holds when an accepted table has been eliminated, before it is cleared.
use Rattle.std.specs.Prelude.{◌≡◌, Err, List, ℕ}
use Rattle.records.specs.Records.{Rec}
use Rattle.tables.specs.Read.{Input}
use Rattle.tables.specs.declared.Reason.TheVariants.{Room}
use Rattle.rules.specs.Room.{State}
use Rattle.rules.specs.Step.{next, stopped}
use Rattle.rules.specs.Run.{start, run_of}
use Rattle.representation.specs.Ready.{limits_in}
use Rattle.loading.specs.Started.{Started}
use Rattle.run.specs.Stretch.{Left}

-- The records v are what a start that finds no room leaves, or else what the run does.
pub record Worked (t : Input) (limit most : ℕ) (v : List Rec) : Type 0 where
  pub unstarted : start (limits_in most) t ≡ stopped Room → Started t (stopped Room) most (Err Room) v
  pub ran : (s : State) → start (limits_in most) t ≡ next s → Left (run_of (limits_in most) limit t) t.modulus v most
