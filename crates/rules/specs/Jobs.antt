-- The starred jobs of document 01, "Jobs on the line": one table, and one claim that covers it.
use Rattle.std.specs.Prelude.{◌≡◌, List, [], ◌∷◌, ℕ}
use Rattle.residues.specs.Each.{Each}
use Rattle.polynomials.specs.Poly.{Term, Poly}
use Rattle.polynomials.specs.Bounds.{at_most, standard}
use Rattle.tables.specs.Read.{Input, System}
use Rattle.tables.specs.Solve.{first_solved}
use Rattle.tables.specs.declared.Reason.TheVariants.{Room, Steps}
use Rattle.rules.specs.Run.{Ended, finished, refused, run_of}

pub record Job : Type 0 where
  pub input : Input
  -- The limit of steps, and the room.
  pub limit : ℕ
  pub room : ℕ
  pub ends : Ended
  -- Points that solve none of the systems.
  pub unsolved : List (List ℕ)

-- p, n, P, Q; the limit and the room; how the run ends; the points.
abbrev job : ℕ → ℕ → List Poly → List Poly → ℕ → ℕ → Ended → List (List ℕ) → Job
job p n P Q limit room ends points =
    record { input = record { modulus = p; variables = n; P = P; Q = Q }; limit = limit; room = room; ends = ends; unsolved = points }

abbrev system : List Poly → List Poly → System
system T U = record { T = T; U = U }

-- c v1^a v2^b.
abbrev term : ℕ → ℕ → ℕ → Term
term c a b = record { coef = c; exps = a ∷ b ∷ 0 ∷ 0 ∷ 0 ∷ 0 ∷ 0 ∷ 0 ∷ [] }

-- The room of a work area of 4,096 records.
abbrev ample : ℕ
ample = 4095

-- A job that is accepted has as its limit just the steps that it takes.
abbrev pub jobs : List Job
jobs =
    -- P, Q empty: 1 step, one system, both lists empty.
    job 7 1 [] [] 1 ample (finished 1 (system [] [] ∷ [])) []
    -- The same, limit 0: refusal 12, 0 steps.
    ∷ job 7 1 [] [] 0 ample (refused 0 Steps) []
    -- P = 3: 1 step, no system.
    ∷ job 7 1 ((term 3 0 0 ∷ []) ∷ []) [] 1 ample (finished 1 []) []
    -- Q = zero polynomial: 1 step, no system.
    ∷ job 7 1 [] ([] ∷ []) 1 ample (finished 1 []) []
    -- P = v1, Q = v1: 2 steps, no system.
    ∷ job 7 1 ((term 1 1 0 ∷ []) ∷ []) ((term 1 1 0 ∷ []) ∷ []) 2 ample (finished 2 []) []
    -- P = v1 v2 + 6: 4 steps, T = v1 v2 + 6, U = v1.
    ∷ job 7 2 ((term 1 1 1 ∷ term 6 0 0 ∷ []) ∷ []) [] 4 ample
    (finished 4 (system ((term 1 1 1 ∷ term 6 0 0 ∷ []) ∷ []) ((term 1 1 0 ∷ []) ∷ []) ∷ [])) []
    -- The same, room 10: refusal 11 after 0 steps.
    ∷ job 7 2 ((term 1 1 1 ∷ term 6 0 0 ∷ []) ∷ []) [] 4 10 (refused 0 Room) []
    -- The same, room 11: accepted.
    ∷ job 7 2 ((term 1 1 1 ∷ term 6 0 0 ∷ []) ∷ []) [] 4 11
    (finished 4 (system ((term 1 1 1 ∷ term 6 0 0 ∷ []) ∷ []) ((term 1 1 0 ∷ []) ∷ []) ∷ [])) []
    -- P = v1^2 + 6, v1^2 + v1 + 5: 4 steps, T = v1 + 6, U empty.
    ∷ job 7 1 ((term 1 2 0 ∷ term 6 0 0 ∷ []) ∷ (term 1 2 0 ∷ term 1 1 0 ∷ term 5 0 0 ∷ []) ∷ []) [] 4 ample
    (finished 4 (system ((term 1 1 0 ∷ term 6 0 0 ∷ []) ∷ []) [] ∷ [])) []
    -- p = 2, P = v1^2 + v1 + 1: 2 steps, one system, solved by no point.
    ∷ job 2 1 ((term 1 2 0 ∷ term 1 1 0 ∷ term 1 0 0 ∷ []) ∷ []) [] 2 ample
    (finished 2 (system ((term 1 2 0 ∷ term 1 1 0 ∷ term 1 0 0 ∷ []) ∷ []) [] ∷ [])) ((0 ∷ []) ∷ (1 ∷ []) ∷ [])
    ∷ []

abbrev systems_of : Ended → List System
systems_of (finished n ss) = ss
systems_of (refused n why) = []

abbrev pub Holds : Job → Type 0
Holds j =
    (run_of (record { bounds = standard; of_room = at_most j.room }) j.limit j.input ≡ j.ends)
    × Each (λ x. first_solved j.input.modulus x 1 (systems_of j.ends) ≡ 0) j.unsolved
