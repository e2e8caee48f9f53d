-- Demand 3 as a single claim about calls of the operations, over every table, limit, work area, output and point. A call is known by its
-- contract alone, and its answer by its numbers: `Eliminates` is what `eliminate` ensures, `Tries` what `points::try_table` does, and `Places`
-- what `lists::try_list` does. `Promise` states the claim; it is drawn from the claim on the definitions in rules/specs/Promise.antt, whose
-- records `ListPromise` and `PointPromise` say the same of them.
use Rattle.std.specs.Prelude.{◌≡◌, refl, ◌↔◌, Bool, true, false, List, ℕ, ◌*◌, ◌≤◌, length, take, Result}
use Rattle.std.proofs.Common.{sym, ◌∙◌, ap, subst, true≢false, arith}
use Rattle.std.proofs.lemmas.Bool.{false≢true}
use Rattle.residues.specs.Each.{Each}
use Rattle.tables.specs.Read.{good, Input, System, read_table}
use Rattle.tables.specs.Solve.{solves, first_solved, try_input, answered, Tries, Places}
use Rattle.tables.specs.Reason.{number}
use Rattle.tables.specs.Numbers.{Numbers, trial_numbers, place_numbers}
use Rattle.tables.specs.declared.Reason.{Reason}
use Rattle.tables.specs.declared.Reason.TheVariants.{Shape, Prime, Variables, Index, Head, Coefficient, Exponent, Order, Terms, Degree, Room, Steps, Output, Point, Broken}
use Rattle.tables.specs.declared.Refusal.{Refusal}
use Rattle.tables.specs.Solved.{PointOf, Solves, Solved, First}
use Rattle.rules.specs.Written.{list_records}
use Rattle.rules.specs.Eliminate.{Eliminated, listed, turned_back, eliminated, output_after}
use Rattle.rules.proofs.laws.Promised.{good_iff}
use Rattle.rules.specs.Promise.{ListPromise, PointPromise}
use Rattle.rules.proofs.Promise.{promise}
use Rattle.run.specs.declared.Answer.{Answer}
use Rattle.run.specs.declared.Outcome.TheVariants.{Systems}
use Rattle.delivery.specs.Answer.{answer_of}
use Rattle.elimination.specs.Eliminates.{Eliminates}
use Rattle.elimination.specs.Numbers.{outcome_numbers}

-- ── the claim ──
-- At a point of n residues: a trial against the table, and one against the list's own records.
pub record PointAnswers (table own : List ℕ) (ss : List System) (t : Input) (x : List ℕ) (q : Numbers) (s : Numbers) : Type 0 where
  -- "Trying a point of n residues against the table answers yes exactly when the point solves the input."
  pub answered : q.outcome ≡ 0
  pub yes_or_no : q.value ≤ 1
  pub yes : q.value ≡ 1 ↔ Solves t.modulus x t.P t.Q
  -- "Trying the same point against those records is never refused, and answers the place of the first system that it solves, or 0."
  pub never_refused : s.outcome ≡ 0
  pub place : (r : ℕ) → 1 ≤ r → s.value ≡ r ↔ First t.modulus x 1 r ss
  pub none : s.value ≡ 0 ↔ Each (λ u. ¬ Solved t.modulus x u) ss
  -- "Yes goes with a place from 1, and no with 0."
  pub yes_with_a_place : q.value ≡ 1 ↔ (1 ≤ s.value)
  pub no_with_0 : q.value ≡ 0 ↔ (s.value ≡ 0)
  -- The zero relation and the initials.
  pub on_definitions : PointPromise table own ss t x

-- Of a call that is refused it says nothing.
abbrev pub Promise : Type 0
Promise =
    (table work output : List ℕ) (limit : ℕ) (x : List ℕ) (a : Answer) (work_after output_left : List ℕ) → Eliminates table work output limit a work_after output_left →
    (outcome_numbers a.outcome).outcome ≡ 0 →
    (t : Input) × (ss : List System) × (words : List ℕ) × (read_table table ≡ good t) × ((outcome_numbers a.outcome).value ≡ length ss)
    × (take (4 * list_records ss) output_left ≡ words) × ListPromise table work output limit a.steps ss words t
    × ((q : Result Bool Refusal) (s : Result ℕ Refusal) → PointOf t.modulus t.variables x → Tries table x q → Places (take (4 * list_records ss) output_left) x s →
    PointAnswers table (take (4 * list_records ss) output_left) ss t x (trial_numbers q) (place_numbers s))

-- ── its proof ──
-- A refusal has a number from 1.
some_number : (why : Reason) → 1 ≤ number why
unfolding number
some_number Shape = omega arith
some_number Prime = omega arith
some_number Variables = omega arith
some_number Index = omega arith
some_number Head = omega arith
some_number Coefficient = omega arith
some_number Exponent = omega arith
some_number Order = omega arith
some_number Terms = omega arith
some_number Degree = omega arith
some_number Room = omega arith
some_number Steps = omega arith
some_number Output = omega arith
some_number Point = omega arith
some_number Broken = omega arith

accepted_is_listed : (E : Eliminated) → (outcome_numbers (answer_of E).outcome).outcome ≡ 0 → (n : ℕ) × (ss : List System) × (words : List ℕ) × (E ≡ listed n ss words)
accepted_is_listed (listed n ss words) e = (n, ss, words, refl)
accepted_is_listed (turned_back n why at) e = absurd (omega (arith, e, some_number why))

abbrev bit : Bool → ℕ
bit true = 1
bit false = 0

trial_says : (b : Bool) → trial_numbers (answered (good b)) ≡ record { outcome = 0; value = bit b }
trial_says true = refl
trial_says false = refl

bit_true : (b : Bool) → bit b ≡ 1 ↔ b ≡ true
bit_true true = (λ e. refl, λ e. refl)
bit_true false = (λ e. absurd (omega (arith, e)), λ e. absurd (false≢true e))

bit_false : (b : Bool) → bit b ≡ 0 ↔ b ≡ false
bit_false true = (λ e. absurd (omega (arith, e)), λ e. absurd (true≢false e))
bit_false false = (λ e. refl, λ e. refl)

bit_small : (b : Bool) → bit b ≤ 1
bit_small true = omega arith
bit_small false = omega arith

module _ (table own : List ℕ) (ss : List System) (t : Input) (x : List ℕ) (P : PointPromise table own ss t x) where
  abbrev b : Bool
  b = solves t.modulus x t.P t.Q

  abbrev k : ℕ
  k = first_solved t.modulus x 1 ss

  yes_says : bit b ≡ 1 ↔ try_input table x ≡ good true
  yes_says = (λ e. (good_iff P.answers true).1 ((bit_true b).0 e), λ e. (bit_true b).1 ((good_iff P.answers true).0 e))

  no_says : bit b ≡ 0 ↔ try_input table x ≡ good false
  no_says = (λ e. (good_iff P.answers false).1 ((bit_false b).0 e), λ e. (bit_false b).1 ((good_iff P.answers false).0 e))

  point_answers : PointAnswers table own ss t x (record { outcome = 0; value = bit b }) (record { outcome = 0; value = k })
  point_answers = record {
    answered = refl;
    yes_or_no = bit_small b;
    yes = (λ e. P.yes.0 (yes_says.0 e), λ s. yes_says.1 (P.yes.1 s));
    never_refused = refl;
    place = λ r l. (λ e. (P.place r l).0 ((good_iff P.names r).1 e), λ f. (good_iff P.names r).0 ((P.place r l).1 f));
    none = (λ e. P.none.0 ((good_iff P.names 0).1 e), λ n. (good_iff P.names 0).0 (P.none.1 n));
    yes_with_a_place = (
      λ e. let s = P.yes_with_a_place.0 (yes_says.0 e) in let q : k ≡ s.0 = (good_iff P.names s.0).0 s.2 in omega (arith, q, s.1),
      λ l. yes_says.1 (P.yes_with_a_place.1 (k, l, P.names)),
    );
    no_with_0 = (λ e. (good_iff P.names 0).0 (P.no_with_0.0 (no_says.0 e)), λ e. no_says.1 (P.no_with_0.1 ((good_iff P.names 0).1 e)));
    on_definitions = P;
  }

  calls_answer : (q : Result Bool Refusal) (s : Result ℕ Refusal) → Tries table x q → Places own x s → PointAnswers table own ss t x (trial_numbers q) (place_numbers s)
  calls_answer q s T S =
      let Q : trial_numbers q ≡ record { outcome = 0; value = bit b } = ap trial_numbers (T ∙ ap answered P.answers) ∙ trial_says b in
      let R : place_numbers s ≡ record { outcome = 0; value = k } = ap place_numbers (S ∙ ap answered P.names) in
      subst (λ (n : Numbers). PointAnswers table own ss t x n (place_numbers s)) (sym Q)
      (subst (λ (n : Numbers). PointAnswers table own ss t x (record { outcome = 0; value = bit b }) n) (sym R) point_answers)

pub promise_of_calls : Promise
promise_of_calls table work output limit x a work_after output_left C z =
    let l = accepted_is_listed (eliminated table (length work) (length output) limit) (subst (λ (a : Answer). (outcome_numbers a.outcome).outcome ≡ 0) C.answer z) in
    let ss = l.1 in
    let P = promise table work output limit x l.0 ss l.2 l.3 in
    let same : a ≡ record { steps = l.0; outcome = Systems (length ss) } = C.answer ∙ ap answer_of l.3 in
    let own : take (4 * list_records ss) output_left ≡ take (4 * list_records ss) (output_after (eliminated table (length work) (length output) limit) output) =
    ap (take (4 * list_records ss)) C.output_is in (
      P.0,
      ss,
      l.2,
      P.1,
      ap (λ (a : Answer). (outcome_numbers a.outcome).value) same,
      own ∙ P.2.stands,
      subst (λ (n : ℕ). ListPromise table work output limit n ss l.2 P.0) (sym (ap (λ (a : Answer). a.steps) same)) P.2,
      λ q s h T S. calls_answer table (take (4 * list_records ss) output_left) ss P.0 x (subst (λ (v : List ℕ). PointPromise table v ss P.0 x) (sym own) (P.3 h)) q s T S,
    )
