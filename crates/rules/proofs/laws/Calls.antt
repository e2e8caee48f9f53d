-- How a call of elimination ends: what holds of each way in which reading and the list's delivery can end holds of the call.
use Rattle.std.specs.Prelude.{◌≡◌, refl, Bool, true, false, List, ℕ, ◌/◌, ◌≤◌, ◌<◌, ltb}
use Rattle.std.proofs.Common.{sym, subst, ltb-true, ltb-false, lt-ltb, le-ltb}
use Rattle.std.proofs.Math.Path.{ap}
use Rattle.tables.specs.Read.{Read, good, Input, System, Listing, read_table}
use Rattle.tables.specs.Read as tables
use Rattle.tables.specs.declared.Reason.{Reason}
use Rattle.tables.specs.declared.Reason.TheVariants.{Output}
use Rattle.rules.specs.Run.{finished, run_of}
use Rattle.rules.specs.Written.{list_words, list_records}
use Rattle.rules.specs.Eliminate.{limits_of, Eliminated, listed, turned_back, delivered, eliminated}

-- The list that is written of an input's systems.
abbrev pub listing : Input → List System → Listing
listing t ss = record { modulus = t.modulus; variables = t.variables; systems = ss }

-- ── delivery ──
module _ (room : ℕ) (t : Input) (n : ℕ) (ss : List System) where
  -- By whether the output is short.
  abbrev by_length : Bool → Eliminated
  by_length c = elim c as (λ c. Eliminated) [ true ↦ turned_back n Output 0 | false ↦ listed n ss (list_words (listing t ss)) ]

  pub delivered_short : room < list_records ss → delivered room t (finished n ss) ≡ turned_back n Output 0
  delivered_short h = ap by_length (lt-ltb room (list_records ss) h)

  delivered_whole : list_records ss ≤ room → delivered room t (finished n ss) ≡ listed n ss (list_words (listing t ss))
  delivered_whole h = ap by_length (le-ltb room (list_records ss) h)

  pub delivered_ends {ℓ} : (C : Eliminated → Type ℓ) → (room < list_records ss → C (turned_back n Output 0)) →
      (list_records ss ≤ room → C (listed n ss (list_words (listing t ss)))) → C (delivered room t (finished n ss))
  delivered_ends C short fits = go (ltb room (list_records ss)) refl
    where
      go : (c : Bool) → ltb room (list_records ss) ≡ c → C (delivered room t (finished n ss))
      go true e = let h = ltb-true room (list_records ss) e in subst C (sym (delivered_short h)) (short h)
      go false e = let h = ltb-false room (list_records ss) e in subst C (sym (delivered_whole h)) (fits h)

-- ── reading ──
module _ (w : List ℕ) (work output limit : ℕ) where
  -- By what was read.
  abbrev by_reading : Read Input → Eliminated
  by_reading r = elim r as (λ r. Eliminated) [ good t ↦ delivered (output / 4) t (run_of (limits_of work) limit t) | tables.refused why at ↦ turned_back 0 why at ]

  pub call_read : (t : Input) → read_table w ≡ good t → eliminated w work output limit ≡ delivered (output / 4) t (run_of (limits_of work) limit t)
  unfolding eliminated
  call_read t q = ap by_reading q

  pub call_not_read : (why : Reason) (at : ℕ) → read_table w ≡ tables.refused why at → eliminated w work output limit ≡ turned_back 0 why at
  unfolding eliminated
  call_not_read why at q = ap by_reading q

  pub call_ends {ℓ} : (C : Eliminated → Type ℓ) → ((why : Reason) (at : ℕ) → read_table w ≡ tables.refused why at → C (turned_back 0 why at)) →
      ((t : Input) → read_table w ≡ good t → C (delivered (output / 4) t (run_of (limits_of work) limit t))) → C (eliminated w work output limit)
  call_ends C not_read runs = go (read_table w) refl
    where
      go : (r : Read Input) → read_table w ≡ r → C (eliminated w work output limit)
      go (good t) q = subst C (sym (call_read t q)) (runs t q)
      go (tables.refused why at) q = subst C (sym (call_not_read why at q)) (not_read why at q)
