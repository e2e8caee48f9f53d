-- How the run, and a stretch of it, ends: the steps, the outcome, and what the work area holds then.
use Rattle.std.specs.Prelude.{◌≡◌, List, [], map, reverse, ℕ, ◌-◌, ◌≤◌, length, Option, Some, None}
use Rattle.records.specs.Records.{Rec}
use Rattle.rules.specs.Run.{Ended, finished, refused, run_steps, run}
use Rattle.branches.specs.Area.{Stored, Area, Held, with_open}
use Rattle.representation.specs.Represent.{system_of, state_of}
use Rattle.run.specs.declared.Outcome.{Outcome}
use Rattle.run.specs.declared.Outcome.TheVariants.{Systems, Refused}
use Rattle.run.specs.declared.Stretch.{Stretch}
use Rattle.representation.specs.Ready.{Ready, limits_in}

abbrev pub outcome_of : Ended → Outcome
outcome_of (finished n ss) = Systems (length ss)
outcome_of (refused n why) = Refused why 0

-- A finished run leaves its systems in the work area; a refused one leaves a state with an open branch.
abbrev pub Left : Ended → ℕ → List Rec → ℕ → Type 0
Left (finished n ss) p v most =
    (stored : List Stored) × Held v most (record { branches = []; systems = stored }) × Ready p (record { branches = []; systems = stored })
    × (reverse (map system_of stored) ≡ ss)
Left (refused n why) p v most = (b : Stored) × (bs : List Stored) × (ss : List Stored) × Held v most (with_open b bs ss)

-- A run that comes to `ended` has done so many steps, has this outcome, and leaves v in the work area.
pub record Ran (ended : Ended) (p : ℕ) (n : ℕ) (o : Outcome) (v : List Rec) (most : ℕ) : Type 0 where
  pub steps : n ≡ run_steps ended
  pub outcome : o ≡ outcome_of ended
  pub left : Left ended p v most

-- A stretch of the run that comes to E, with n steps done at its end: it ends as the run does, or it pauses in a state from which the run comes to E.
abbrev pub Stretched : Ended → ℕ → ℕ → ℕ → Option Outcome → List Rec → ℕ → Type 0
Stretched E p limit n (Some o) v most = Ran E p n o v most
Stretched E p limit n None v most =
    (n ≤ limit) × ((a : Area) × Held v most a × Ready p a × (run (limits_in most) p (limit - n) n (state_of a) ≡ E))

abbrev pub Stretches : Ended → ℕ → ℕ → Stretch → List Rec → ℕ → Type 0
Stretches E p limit q v most = Stretched E p limit q.steps q.outcome v most
