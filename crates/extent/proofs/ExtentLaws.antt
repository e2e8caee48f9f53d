-- A chain followed record by record.
use Rattle.std.specs.Prelude.{◌≡◌, refl, List, ℕ, zero, suc, ◌+◌, ◌≤◌, ◌<◌, None, Some, Ok, Err}
use Rattle.std.proofs.Common.{sym, ◌∙◌, arith}
use Rattle.tables.specs.declared.Astray.{Astray}
use Rattle.tables.specs.Words.{word, records, follow, Followed, end, to, astray}
use Rattle.tables.specs.Walk.{next}
use Rattle.tables.specs.laws.Chains.{Enough, whole_chain, next_inside}
use Rattle.extent.specs.Extent.{chain, chain_last}
use Rattle.extent.proofs.laws.Extent.{chain_follows}

-- What is left of a chain, from the index i that record `at` holds, ends where the whole does.
pub record Walking (w : List ℕ) (last at i : ℕ) : Type 0 where
  pub fuel : ℕ
  pub enough : Enough w at fuel
  pub same : chain w fuel at i ≡ last

-- ── where an index leads ──
leads_nowhere : (f : Followed) → next f ≡ Ok None → f ≡ end
leads_nowhere end e = refl
leads_nowhere (to j) e = cc
leads_nowhere astray e = cc

leads_astray : (f : Followed) {a : Astray} → next f ≡ Err a → f ≡ astray
leads_astray end e = cc
leads_astray (to j) e = cc
leads_astray astray e = refl

leads_to : (f : Followed) {j : ℕ} → next f ≡ Ok (Some j) → f ≡ to j
leads_to end e = cc
leads_to (to j) e = cc
leads_to astray e = cc

module _ (w : List ℕ) {at i last : ℕ} (k : Walking w last at i) where
  ends : (fuel : ℕ) → follow w at i ≡ end → chain w fuel at i ≡ at
  unfolding chain
  ends zero e = refl
  ends (suc fuel) e = chain_follows w fuel at i e

  strays : (fuel : ℕ) → follow w at i ≡ astray → chain w fuel at i ≡ at
  unfolding chain
  strays zero e = refl
  strays (suc fuel) e = chain_follows w fuel at i e

  pub walking_end : next (follow w at i) ≡ Ok None → at ≡ last
  walking_end e = sym (ends k.fuel (leads_nowhere (follow w at i) e)) ∙ k.same

  pub walking_astray : {a : Astray} → next (follow w at i) ≡ Err a → at ≡ last
  walking_astray e = sym (strays k.fuel (leads_astray (follow w at i) e)) ∙ k.same

  pub walking_inside : {j : ℕ} → next (follow w at i) ≡ Ok (Some j) → (at < j) × (j < records w)
  walking_inside {j} e = next_inside w at i j (rw (leads_to (follow w at i) e))

  pub walking_on : {j : ℕ} → next (follow w at i) ≡ Ok (Some j) → Walking w last j (word w j 3)
  walking_on {j} e = go k.fuel k.enough.lasts k.same
    where
      go : (fuel : ℕ) → records w ≤ at + fuel → chain w fuel at i ≡ last → Walking w last j (word w j 3)
      go zero l s = let h = k.enough.inside in absurd (omega arith)
      go (suc fuel) l s =
          let h = walking_inside e in
          record {
            fuel = fuel;
            enough = record { inside = h.1; lasts = omega arith };
            same = sym (chain_follows w fuel at i (leads_to (follow w at i) e)) ∙ s;
          }
