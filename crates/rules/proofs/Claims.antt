-- What document 01 promises of the systems that a run lists and of its refusals, as claims about the rules. Their proofs stand in laws/.
use Rattle.std.specs.Prelude.{◌≡◌, ◌≢◌, ◌↔◌, true, List, ℕ, ◌-◌, ◌≤◌, length}
use Rattle.residues.specs.Each.{Each}
use Rattle.residues.specs.Field.{Field, Contains}
use Rattle.polynomials.specs.Canonical.{All}
use Rattle.polynomials.specs.Division.{leader, initial}
use Rattle.polynomials.specs.Value.{value_modulo}
use Rattle.polynomials.specs.Bounds.{standard}
use Rattle.tables.specs.Read.{good, System, Input, read_table, read_list}
use Rattle.tables.specs.Solve.{solves, first_solved}
use Rattle.tables.specs.Admissible.{Rising, Admissible, AdmissibleInput}
use Rattle.tables.specs.declared.Reason.{Reason}
use Rattle.rules.specs.Branch.{Branch}
use Rattle.rules.specs.Room.{Limits, unlimited}
use Rattle.rules.specs.Step.{stopped, step}
use Rattle.rules.specs.Run.{finished, run_steps, run_of}
use Rattle.rules.specs.Eliminate.{limits_of, listed, turned_back, steps_of, eliminated}
use Rattle.rules.specs.Cause.{Cause, Met}
use Rattle.rules.specs.Jobs
use Rattle.rules.proofs.Jobs as JobsHold
use Rattle.rules.specs.Solutions.{Some, SolvesInput, SolvesSystem, NonZeroInitial, Proper}
use Rattle.rules.proofs.laws.Points
use Rattle.rules.proofs.laws.Initials
use Rattle.rules.proofs.laws.Rising as RisingLaws
use Rattle.rules.proofs.laws.Runs
use Rattle.rules.proofs.laws.Causes
use Rattle.rules.proofs.laws.Answers
use Rattle.rules.proofs.laws.AdmissibleRun
use Rattle.rules.proofs.laws.WrittenAgain
use Rattle.rules.proofs.laws.Unlimited

-- A run that finished, from an input with a prime modulus and canonical polynomials.
module _ (l : Limits) (limit : ℕ) (t : Input) (proper : Proper t) (n : ℕ) (ss : List System) (ended : run_of l limit t ≡ finished n ss) where
  -- The zero relation, at every point of every field that contains the prime field: the point solves the input if and only if it solves
  -- one of the systems.
  pub zero_relation {ℓ} : {K : Type ℓ} (F : Field K) (x : List K) → Contains F t.modulus → SolvesInput F x t ↔ Some (SolvesSystem F x) ss
  zero_relation F x char = Points.zero_relation F x l t proper char limit n ss ended

  -- No initial vanishes at a point that solves its system.
  pub initials {ℓ} : {K : Type ℓ} (F : Field K) (x : List K) → Contains F t.modulus → Each (λ s. SolvesSystem F x s → Each (NonZeroInitial F x) s.T) ss
  initials F x char = Initials.initials F x l t proper char limit n ss ended

  -- Leading variables rise, where exponents are those of eight variables.
  pub rising : Each (All (λ e. length e ≡ 8)) t.P → Each (All (λ e. length e ≡ 8)) t.Q → Each (λ s. Rising 0 s.T) ss
  rising P Q = RisingLaws.rising l t proper P Q limit n ss ended

  -- The zero relation of residues: "yes goes with a place from 1, and no with 0".
  pub yes_with_place : (x : List ℕ) → (solves t.modulus x t.P t.Q ≡ true) ↔ (first_solved t.modulus x 1 ss ≢ 0)
  yes_with_place x = Answers.yes_with_place l limit t proper n ss ended x

  pub initials_modulo : (x : List ℕ) → Each (λ s. solves t.modulus x s.T s.U ≡ true → Each (λ f. value_modulo t.modulus (initial (leader f - 1) f) x ≢ 0) s.T) ss
  initials_modulo x = Answers.initials_modulo l limit t proper n ss ended x

-- "Never more than the caller's limit", under any limits: of a run that finished and of one that was refused.
pub run_steps_within : (l : Limits) (limit : ℕ) (t : Input) → run_steps (run_of l limit t) ≤ limit
run_steps_within l limit t = Runs.run_of_steps l limit t

-- A call of elimination, over the words of the table, of the work area and of the output, and the limit.
module _ (w : List ℕ) (work output limit : ℕ) where
  -- "Never more than the caller's limit", accepted or refused.
  pub steps_within : steps_of (eliminated w work output limit) ≤ limit
  steps_within = Causes.steps_within w work output limit

  module _ (n : ℕ) (why : Reason) (at : ℕ) where
    -- "No number comes without its cause."
    pub refused_cause : eliminated w work output limit ≡ turned_back n why at → Cause w work output limit n why at
    refused_cause e = Causes.refused_cause w work output limit n why at e

    -- "A job that meets a limit stops with that limit's number."
    pub cause_refuses : Cause w work output limit n why at → eliminated w work output limit ≡ turned_back n why at
    cause_refuses c = Causes.cause_refuses w work output limit n why at c

-- The same of a step: it stops for what it meets, and for nothing else.
module _ (work p : ℕ) (waiting : List Branch) (so_far : List System) (b : Branch) (why : Reason) where
  pub stopped_cause : step (limits_of work) p b waiting so_far ≡ stopped why → Met work p waiting so_far b why
  stopped_cause e = Causes.stopped_cause work p waiting so_far b why e

  pub cause_stops : Met work p waiting so_far b why → step (limits_of work) p b waiting so_far ≡ stopped why
  cause_stops m = Causes.cause_stops work p waiting so_far b why m

-- Within the bounds of document 01, each polynomial of a listed system is one that a table can hold, where those of the input are.
pub admissible_run : (l : Limits) (limit : ℕ) (t : Input) → l.bounds ≡ standard → AdmissibleInput t → (n : ℕ) (ss : List System) → run_of l limit t ≡ finished n ss →
    Each (λ s. Each (Admissible t.modulus t.variables) s.T × Each (Admissible t.modulus t.variables) s.U) ss
admissible_run l limit t b a n ss e = AdmissibleRun.admissible_run l limit t b a.numbers.prime a.numbers.some_variable a.zeros a.nonzeros n ss e

-- "The written list, read again": the words that an accepted elimination writes are a list, of the systems of the run on the table's input.
pub written_again : (w : List ℕ) (work output limit n : ℕ) (ss : List System) (words : List ℕ) → eliminated w work output limit ≡ listed n ss words →
    (t : Input) × (read_table w ≡ good t) × (run_of (limits_of work) limit t ≡ finished n ss)
    × (read_list words ≡ good (record { modulus = t.modulus; variables = t.variables; systems = ss }))
written_again w work output limit n ss words e = WrittenAgain.written_again w work output limit n ss words e

-- A run that finished is the run without limits, given as many steps.
pub finished_unlimited : (l : Limits) (limit : ℕ) (t : Input) (n : ℕ) (ss : List System) → run_of l limit t ≡ finished n ss →
    (m : ℕ) → n ≤ m → run_of unlimited m t ≡ finished n ss
finished_unlimited l limit t n ss e m h = Unlimited.finished_unlimited l limit t n ss e m h

-- So whatever its limits, a run of this input that finishes lists the same systems in the same order after the same steps.
pub finished_alike : (l l' : Limits) (limit limit' : ℕ) (t : Input) (n n' : ℕ) (ss ss' : List System) →
    run_of l limit t ≡ finished n ss → run_of l' limit' t ≡ finished n' ss' → (n ≡ n') × (ss ≡ ss')
finished_alike l l' limit limit' t n n' ss ss' e e' = Unlimited.finished_alike l l' limit limit' t n n' ss ss' e e'

-- "Lists from several .. machines are compared place by place": calls with the same table that are accepted count the same steps and write the
-- same words, whatever the limit and however long the work area and the output.
pub accepted_alike : (w : List ℕ) (work work' output output' limit limit' n n' : ℕ) (ss ss' : List System) (words words' : List ℕ) →
    eliminated w work output limit ≡ listed n ss words → eliminated w work' output' limit' ≡ listed n' ss' words' → (n ≡ n') × (ss ≡ ss') × (words ≡ words')
accepted_alike w work work' output output' limit limit' n n' ss ss' words words' e e' =
    Unlimited.accepted_alike w work work' output output' limit limit' n n' ss ss' words words' e e'

-- The starred jobs of document 01.
pub starred_jobs : Each Jobs.Holds Jobs.jobs
starred_jobs = JobsHold.jobs_hold
