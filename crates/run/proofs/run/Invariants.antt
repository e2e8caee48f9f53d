-- The run: the run from the state held gives the run from where it began. The members: what is left of the step, from the branch held, gives the
-- step. The division: the rounds left, from the terms in r, form the remainder. A round did not fit only where x is short. The records beyond stay.
use Rattle.std.specs.Prelude.{◌≡◌, true, ◌-◌, ◌<◌, length, take}
use Rattle.polynomials.specs.Division.{degree}
use Rattle.polynomials.specs.Packed.{terms}
use Rattle.branches.specs.Area.{beyond}
use Rattle.run.proofs.Invariants.{AtRun, AtMembers, AtDivision}
use Rattle.run.proofs.run.Given as goal

abbrev pub invariant-run : goal.invariant-run
invariant-run l = record {
  runs : AtRun l.p l.limit l.from l.fn.w l.w l.steps;
  stays : beyond l.w ≡ beyond l.fn.w;
  crowds : l.crowded ≡ true → length l.fn.x < 512;
}

abbrev pub decreases-run : goal.decreases-run
decreases-run l = l.limit - l.steps

abbrev pub invariant-members : goal.invariant-members
invariant-members l = record {
  divides : AtMembers l.p l.k (terms (take l.pivot l.t)) l.dividends l.initial.left l.initial.w l.w l.left;
  stays : beyond l.w ≡ beyond l.fn.w;
  crowds : l.crowded ≡ true → length l.fn.x < 512;
}

abbrev pub decreases-members : goal.decreases-members
decreases-members l = l.left

abbrev pub invariant-division : goal.invariant-division
invariant-division l = record {
  rounds : AtDivision l.p l.k l.degree (terms (take l.pivot l.t)) l.initial.r l.initial.n l.r l.n;
  crowds : l.crowded ≡ true → length l.fn.x < 512;
}

abbrev pub decreases-division : goal.decreases-division
decreases-division l = degree l.k (terms (take l.n l.r))
