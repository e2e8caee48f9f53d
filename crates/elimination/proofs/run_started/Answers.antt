-- The modulus of a table is a prime.
use Rattle.std.proofs.Common.{◌≡◌, ◌∙◌, List, ℕ, subst, arith}
use Rattle.records.specs.Records.{Rec, view}
use Rattle.rules.specs.Run.{run}
use Rattle.branches.specs.Area.{Area, HeldIn, used}
use Rattle.representation.specs.Represent.{state_of}
use Rattle.representation.specs.Ready.{Ready, limits_in}
use Rattle.run.specs.declared.Outcome.{Outcome}
use Rattle.run.specs.Stretch.{Ran}
use Rattle.tables.specs.laws.Accepted.{readable_numbers}
use Rattle.elimination.proofs.run_started.Goals as goal

-- The run modulo the number that the table's prime became.
ran_by : (w : List (List ℕ)) (limit n : ℕ) (o : Outcome) (v : List Rec) {p q m : ℕ} → p ≡ q → m ≡ limit
    → ((a : Area) → HeldIn w a → Ready p a → Ran (run (limits_in (used w)) p m 0 (state_of a)) p n o v (used w))
    → (a : Area) → HeldIn w a → Ready q a → Ran (run (limits_in (used w)) q limit 0 (state_of a)) q n o v (used w)
ran_by w limit n o v {q = q} {m = m} e all h =
    subst (λ (m : ℕ). (a : Area) → HeldIn w a → Ready q a → Ran (run (limits_in (used w)) q m 0 (state_of a)) q n o v (used w)) all
    (subst (λ (p : ℕ). (a : Area) → HeldIn w a → Ready p a → Ran (run (limits_in (used w)) p m 0 (state_of a)) p n o v (used w)) e h)

pub new-p-requires-clause-positive : goal.new-p-requires-clause-positive
new-p-requires-clause-positive c = omega (arith, c.from.ensures, (readable_numbers _ _ _ c.args.table.readable).prime.two≤)

pub new-p-requires-clause-below : goal.new-p-requires-clause-below
new-p-requires-clause-below c = omega (arith, c.from.ensures, (readable_numbers _ _ _ c.args.table.readable).below)

pub run_short-requires-clause-prime : goal.run_short-requires-clause-prime
run_short-requires-clause-prime c = rw (c.new-p.ensures, c.from.ensures) (readable_numbers _ _ _ c.args.table.readable).prime

pub run_long-requires-clause-prime : goal.run_long-requires-clause-prime
run_long-requires-clause-prime c = rw (c.new-p.ensures, c.from.ensures) (readable_numbers _ _ _ c.args.table.readable).prime

pub returns-then-table-le128-clause-ran : goal.returns-then-table-le128-clause-ran
returns-then-table-le128-clause-ran c =
    let r = c.run_short in
    ran_by c.args.work.now c.args.limit r.result.steps r.result.outcome (view r.new.work) (c.new-p.ensures ∙ c.from.ensures) (omega arith) r.ensures.ran

pub returns-else-table-le128-clause-ran : goal.returns-else-table-le128-clause-ran
returns-else-table-le128-clause-ran c =
    let r = c.run_long in
    ran_by c.args.work.now c.args.limit r.result.steps r.result.outcome (view r.new.work) (c.new-p.ensures ∙ c.from.ensures) (omega arith) r.ensures.ran
