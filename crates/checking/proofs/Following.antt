-- Chains whose index `words::follow` followed, which doesn't say what record holds it.
use Rattle.std.specs.Prelude.{◌≡◌, List, ℕ, ◌<◌, Option, Some, Result, Ok, Err}
use Rattle.std.proofs.Common.{sym}
use Rattle.tables.specs.declared.Reason.TheVariants.{Index}
use Rattle.tables.specs.declared.Astray.{Astray}
use Rattle.tables.specs.declared.Refusal.{Refusal}
use Rattle.tables.specs.Words.{records, follow}
use Rattle.tables.specs.Read.{Read}
use Rattle.tables.specs.Solve.{refusal}
use Rattle.tables.specs.Walk.{next}
use Rattle.tables.specs.laws.Chains.{Chain, Reached, Leads, strays_from, leads_from, left, left_less}
use Rattle.words.proofs.Laws.{from_ok, from_err}

module _ {A S : Type 0} {w : List ℕ} {step : S → ℕ → Read A} {on : S → A → S} {X : ℕ → S → ℕ → ℕ → Read (List A)} (C : Chain w step on X) where
  pub followed_leads : {s : S} {at i : ℕ} {to : Option ℕ} {whole : Result (Unit {0}) Refusal} → Reached C s at i whole → Ok to ≡ next (follow w at i)
      → Leads C s to whole
  followed_leads {at = at} {i} r e = leads_from C r (sym (from_ok at (follow w at i) (sym e)))

  pub followed_strays : {s : S} {at i : ℕ} {a : Astray} {whole : Result (Unit {0}) Refusal} → Reached C s at i whole → next (follow w at i) ≡ Err a
      → Err (refusal Index at) ≡ whole
  followed_strays {at = at} {i} r e = strays_from C r (sym (from_err at (follow w at i) e))

pub followed_less : (w : List ℕ) (i j : ℕ) (to before : Option ℕ) → before ≡ Some j → j < records w → Ok to ≡ next (follow w j i) → left w to < left w before
followed_less w i j to before b h e = left_less w i j to before b h (sym (from_ok j (follow w j i) (sym e)))
