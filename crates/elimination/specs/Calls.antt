-- Demands 1 and 2 as claims about calls of `eliminate`, each known by its contract alone (`Eliminates`): whatever is refused has its cause and
-- loses nothing, and what is accepted depends on the table alone. They are drawn from the claims on the definitions in rules/proofs/Claims.antt.
use Rattle.std.specs.Prelude.{◌≡◌, refl, ◌↔◌, List, ◌++◌, ℕ, ◌≤◌, length, take, drop}
use Rattle.std.proofs.Common.{sym, ◌∙◌, ap, arith, take_at, drop_at}
use Rattle.tables.specs.Read.{System}
use Rattle.tables.specs.declared.Reason.{Reason}
use Rattle.rules.specs.Eliminate.{Eliminated, listed, turned_back, steps_of, eliminated, output_after}
use Rattle.rules.specs.Cause.{Cause}
use Rattle.rules.proofs.Claims.{steps_within, refused_cause, cause_refuses, accepted_alike}
use Rattle.run.specs.declared.Outcome.TheVariants.{Systems, Refused}
use Rattle.run.specs.declared.Answer.{Answer}
use Rattle.delivery.specs.Answer.{answer_of}
use Rattle.elimination.specs.Eliminates.{Eliminates}

steps_are : (E : Eliminated) → (answer_of E).steps ≡ steps_of E
steps_are (listed n ss words) = refl
steps_are (turned_back n why at) = refl

refused_is : (E : Eliminated) (why : Reason) (at : ℕ) → (answer_of E).outcome ≡ Refused why at → E ≡ turned_back (answer_of E).steps why at
refused_is (listed n ss words) why at e = let z : ◌≡◌ {A = ℕ} 0 1 = cc in absurd (omega arith)
refused_is (turned_back n why₁ at₁) why at e =
    let same : why₁ ≡ why = cc in
    let record_same : at₁ ≡ at = cc in
    λ t. turned_back n (same t) (record_same t)

accepted_is : (E : Eliminated) (count : ℕ) → (answer_of E).outcome ≡ Systems count → (ss : List System) × (words : List ℕ) × (E ≡ listed (answer_of E).steps ss words)
accepted_is (listed n ss words) count e = (ss, words, refl)
accepted_is (turned_back n why at) count e = let z : ◌≡◌ {A = ℕ} 0 1 = cc in absurd (omega arith)

-- ── one call ──
module _ (table work output : List ℕ) (limit : ℕ) (a : Answer) (work_after output_left : List ℕ) (C : Eliminates table work output limit a work_after output_left) where
  abbrev E : Eliminated
  E = eliminated table (length work) (length output) limit

  -- "Never more than the caller's limit."
  pub call_steps_within : a.steps ≤ limit
  call_steps_within = omega (arith, ap (λ (a : Answer). a.steps) C.answer, steps_are E, steps_within table (length work) (length output) limit)

  module _ (why : Reason) (at : ℕ) where
    turned : a.outcome ≡ Refused why at → E ≡ turned_back a.steps why at
    turned e =
        refused_is E why at (ap (λ (a : Answer). a.outcome) (sym C.answer) ∙ e)
        ∙ ap (λ (n : ℕ). turned_back n why at) (ap (λ (a : Answer). a.steps) (sym C.answer))

    -- "A job that meets a limit stops with that limit's number, and no number comes without its cause."
    pub call_refused_by_cause : (n : ℕ) → a ≡ record { steps = n; outcome = Refused why at } ↔ Cause table (length work) (length output) limit n why at
    call_refused_by_cause n = (
      λ e. refused_cause table (length work) (length output) limit n why at
          (turned (ap (λ (a : Answer). a.outcome) e) ∙ ap (λ (n : ℕ). turned_back n why at) (ap (λ (a : Answer). a.steps) e)),
      λ c. C.answer ∙ ap answer_of (cause_refuses table (length work) (length output) limit n why at c),
    )

    -- "Refused: the output is unchanged."
    pub call_refused_keeps_output : a.outcome ≡ Refused why at → output_left ≡ output
    call_refused_keeps_output e = C.output_is ∙ ap (λ (E : Eliminated). output_after E output) (turned e)

-- ── two calls ──
-- "Lists from several primes and machines are compared place by place": calls with the same table that are accepted answer the same and
-- write the same words to the start of their outputs, whatever the limit, the work area, the output and what stood in them.
module _ (table : List ℕ) where
  pub calls_alike : (work work' output output' : List ℕ) (limit limit' : ℕ) (a a' : Answer) (w w' o o' : List ℕ)
      → Eliminates table work output limit a w o → Eliminates table work' output' limit' a' w' o' → (count count' : ℕ) → a.outcome ≡ Systems count → a'.outcome ≡ Systems count'
      → (a ≡ a') × ((words : List ℕ) × (take (length words) o ≡ words) × (take (length words) o' ≡ words) × (drop (length words) o ≡ drop (length words) output)
      × (drop (length words) o' ≡ drop (length words) output'))
  calls_alike work work' output output' limit limit' a a' w w' o o' C C' count count' e e' =
      let E = eliminated table (length work) (length output) limit in
      let E' = eliminated table (length work') (length output') limit' in
      let l = accepted_is E count (ap (λ (a : Answer). a.outcome) (sym C.answer) ∙ e) in
      let l' = accepted_is E' count' (ap (λ (a : Answer). a.outcome) (sym C'.answer) ∙ e') in
      let same = accepted_alike table (length work) (length work') (length output) (length output') limit limit' _ _ l.0 l'.0 l.1 l'.1 l.2 l'.2 in
      let left : o ≡ l.1 ++ drop (length l.1) output = C.output_is ∙ ap (λ (E : Eliminated). output_after E output) l.2 in
      let left' : o' ≡ l.1 ++ drop (length l.1) output' =
      C'.output_is ∙ ap (λ (E : Eliminated). output_after E output') l'.2 ∙ ap (λ (words : List ℕ). words ++ drop (length words) output') (sym same.2) in (
        C.answer ∙ ap answer_of l.2 ∙ (λ t. record { steps = same.0 t; outcome = Systems (length (same.1 t)) }) ∙ sym (C'.answer ∙ ap answer_of l'.2),
        (
          l.1,
          ap (take (length l.1)) left ∙ take_at l.1 _ (length l.1) refl,
          ap (take (length l.1)) left' ∙ take_at l.1 _ (length l.1) refl,
          ap (drop (length l.1)) left ∙ drop_at l.1 _ (length l.1) refl,
          ap (drop (length l.1)) left' ∙ drop_at l.1 _ (length l.1) refl,
        ),
      )
