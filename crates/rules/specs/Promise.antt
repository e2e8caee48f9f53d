-- Demand 3 as a single claim about the words handed in and the words written, over every table, limit, work area, output and point. Quoted
-- are the sentences of the demand and of document 01 that its parts stand for. `Promise` states the claim, and `promise` of proofs/Promise proves it;
-- `promise_in_fields` is the zero relation and the initials at the points of every field that contains the prime field.
use Rattle.std.specs.Prelude.{◌≡◌, ◌≢◌, ◌↔◌, true, false, List, ℕ, ◌-◌, ◌*◌, ◌≤◌, length, take, drop}
use Rattle.residues.specs.Each.{Each}
use Rattle.residues.specs.Field.{Field}
use Rattle.polynomials.specs.Division.{leader, initial}
use Rattle.polynomials.specs.Value.{value_modulo}
use Rattle.tables.specs.Read.{good, Input, System, read_table, read_list}
use Rattle.tables.specs.Solve.{solves, first_solved, try_input, try_systems}
use Rattle.tables.specs.Solved.{PointOf, Solves, Solved, First}
use Rattle.rules.specs.Run.{finished, run_of}
use Rattle.rules.specs.Written.{list_records}
use Rattle.rules.specs.Eliminate.{limits_of, listed, eliminated, output_after}
use Rattle.tables.specs.Admissible.{Rising}
use Rattle.rules.specs.Solutions.{Some, SolvesInput, SolvesSystem, NonZeroInitial}

-- ── the claim ──
-- The output after an elimination.
abbrev pub left_in_output : List ℕ → List ℕ → List ℕ → ℕ → List ℕ
left_in_output table work output limit = output_after (eliminated table (length work) (length output) limit) output

-- "The list's own records and nothing after them": the first words of that output, as many as the records that the list needs have.
abbrev pub own_records : List ℕ → List ℕ → List ℕ → ℕ → List System → List ℕ
own_records table work output limit ss = take (4 * list_records ss) (left_in_output table work output limit)

-- What holds of the systems and of the output, whatever the point.
pub record ListPromise (table work output : List ℕ) (limit steps : ℕ) (ss : List System) (words : List ℕ) (t : Input) : Type 0 where
  -- "They are, one for one and in the same order, the systems that the run, by its rules, puts on its list for this table."
  pub by_the_rules : run_of (limits_of (length work)) limit t ≡ finished steps ss
  -- "Steps reported equal the steps of the rules above, never more than the caller's limit."
  pub within_limit : steps ≤ limit
  -- "The list stands in the first words of the output and the others are unchanged."
  pub records : length words ≡ 4 * list_records ss
  pub fits : length words ≤ length output
  pub stands : own_records table work output limit ss ≡ words
  pub others : drop (length words) (left_in_output table work output limit) ≡ drop (length words) output
  pub same_length : length (left_in_output table work output limit) ≡ length output
  -- "The listed systems are read in chain order from the list's own records, as an accepted elimination left them in the output."
  pub read_back : read_list (own_records table work output limit ss) ≡ good (record { modulus = t.modulus; variables = t.variables; systems = ss })
  -- "Leading variables rise: each polynomial of T has one, higher than that of the polynomial before it."
  pub rising : Each (λ s. Rising 0 s.T) ss

-- What holds at a point: `written` are the list's own records in the output.
pub record PointPromise (table written : List ℕ) (ss : List System) (t : Input) (x : List ℕ) : Type 0 where
  -- "The point solves the input exactly when it solves at least one listed system."
  pub relation : Solves t.modulus x t.P t.Q ↔ Some (Solved t.modulus x) ss
  -- "Trying a point of n residues against the table answers yes exactly when the point solves the input."
  pub answers : try_input table x ≡ good (solves t.modulus x t.P t.Q)
  pub yes : try_input table x ≡ good true ↔ Solves t.modulus x t.P t.Q
  -- "Trying the same point against those records is never refused, and answers the place of the first system that it solves, or 0."
  pub names : try_systems written x ≡ good (first_solved t.modulus x 1 ss)
  pub place : (r : ℕ) → 1 ≤ r → try_systems written x ≡ good r ↔ First t.modulus x 1 r ss
  pub none : try_systems written x ≡ good 0 ↔ Each (λ s. ¬ Solved t.modulus x s) ss
  -- "Yes goes with a place from 1, and no with 0."
  pub yes_with_a_place : try_input table x ≡ good true ↔ ((r : ℕ) × (1 ≤ r) × (try_systems written x ≡ good r))
  pub no_with_0 : try_input table x ≡ good false ↔ (try_systems written x ≡ good 0)
  -- "No initial .. is zero at a point that solves its system." "An initial is itself a polynomial, and its value at the point is meant."
  pub no_initial_zero : Each (λ s. Solved t.modulus x s → Each (λ f. value_modulo t.modulus (initial (leader f - 1) f) x ≢ 0) s.T) ss

-- The claim: "P and Q are the polynomials on the table's two chains, as they stand before any put." Of a call that is refused it says nothing.
abbrev pub Promise : Type 0
Promise =
    (table work output : List ℕ) (limit : ℕ) (x : List ℕ) (steps : ℕ) (ss : List System) (words : List ℕ) →
    eliminated table (length work) (length output) limit ≡ listed steps ss words →
    (t : Input) × (read_table table ≡ good t) × ListPromise table work output limit steps ss words t
    × (PointOf t.modulus t.variables x → PointPromise table (own_records table work output limit ss) ss t x)

-- The same at a point of any field that contains the prime field.
pub record FieldPromise {ℓ} {K : Type ℓ} (F : Field K) (ss : List System) (t : Input) (x : List K) : Type ℓ where
  pub relation : SolvesInput F x t ↔ Some (SolvesSystem F x) ss
  pub no_initial_zero : Each (λ s. SolvesSystem F x s → Each (NonZeroInitial F x) s.T) ss
