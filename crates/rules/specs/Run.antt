-- The run: steps from the first branch until no branch is left, a limit is met, or the steps are used up.
use Rattle.std.specs.Prelude.{List, [], ◌∷◌, ℕ, zero, suc}
use Rattle.tables.specs.Read.{System, Input}
use Rattle.tables.specs.declared.Reason.{Reason}
use Rattle.tables.specs.declared.Reason.TheVariants.{Steps}
use Rattle.rules.specs.Branch.{Branch, put_p, put_q, put_all}
use Rattle.rules.specs.Room.{Limits, State}
use Rattle.rules.specs.Step.{Stepped, next, stopped, within_room, step}

-- How a run ends: after so many whole steps with the systems in order, or refused after so many.
pub data Ended : Type 0 where
  finished : ℕ → List System → Ended
  refused : ℕ → Reason → Ended

-- The whole steps of a run.
abbrev pub run_steps : Ended → ℕ
run_steps (finished n ss) = n
run_steps (refused n why) = n

abbrev pub after_step : (State → Ended) → ℕ → Stepped → Ended
after_step k n (next s) = k s
after_step k n (stopped why) = refused n why

-- n steps are done and at most `left` may follow: "before each step 12 if the limit is reached and a branch is left".
unfoldable pub run : Limits → ℕ → ℕ → ℕ → State → Ended
run l p zero n s = elim s.branches [ [] ↦ finished n s.systems | b ∷ bs ↦ refused n Steps ]
run l p (suc left) n s = elim s.branches [ [] ↦ finished n s.systems | b ∷ bs ↦ after_step (run l p left (suc n)) n (step l p b bs s.systems) ]

-- "The first branch holds the input's P and Q, put in table order, and T empty."
unfoldable pub first_branch : Input → Branch
first_branch t = record { P = put_all (put_p t.modulus) t.P []; Q = put_all (put_q t.modulus) t.Q []; T = [] }

-- The state that a run starts from: the first branch alone.
abbrev pub first_state : Input → State
first_state t = record { branches = first_branch t ∷ []; systems = [] }

-- "11 already while the first branch is put."
unfoldable pub start : Limits → Input → Stepped
start l t = within_room l (first_state t)

unfoldable pub run_of : Limits → ℕ → Input → Ended
run_of l limit t = after_step (run l t.modulus limit 0) 0 (start l t)
