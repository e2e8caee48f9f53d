-- The answer of a finished run whose list is written.
use mathlib.Core.Path.{◌≡◌, sym, ap, ◌∙◌, subst}
use mathlib.Core.Bool.{Bool, true, false}
use mathlib.Core.List.{List, [], ◌++◌, map, reverse}
use Prim.Native.Nat.{ℕ, ◌*◌, ◌≤◌}
use native.Mathlib.Omega.{arith}
use borrow.Author.Tests.{le-ltb}
use lib.ListN.{length, drop}
use Rattle.records.specs.Records.{Rec}
use Rattle.tables.specs.Read.{Input}
use Rattle.tables.specs.declared.Reason.TheVariants.{Output}
use Rattle.rules.specs.Written.{list_words, list_records}
use Rattle.rules.proofs.laws.Lengths.{length_list}
use Rattle.rules.specs.Run.{Ended, finished, refused, run_steps}
use Rattle.rules.specs.Eliminate.{Eliminated, listed, turned_back, delivered}
use Rattle.branches.specs.Area.{Stored, Held}
use Rattle.representation.specs.Represent.{AllListed, system_of}
use Rattle.writing.specs.Listed.{listing_of}
use Rattle.run.specs.declared.Answer.{Answer}
use Rattle.run.specs.declared.Outcome.TheVariants.{Systems}
use Rattle.run.specs.Stretch.{outcome_of, Ran}
use Rattle.delivery.specs.Delivered.{Delivered}

-- What is known of the records that the list of the systems in the work area needs.
abbrev pub Needs : List Rec → ℕ → ℕ → Type 0
Needs v most m = (ss : List Stored) → Held v most (record { branches = []; systems = ss }) → AllListed ss → m ≡ list_records (reverse (map system_of ss))

module _ {p : ℕ} {r : Answer} {v : List Rec} {most : ℕ} where
  whole : {e : Ended} → Ran e p r.steps r.outcome v most → r ≡ record { steps = run_steps e; outcome = outcome_of e }
  whole x i = record { steps = x.steps i; outcome = x.outcome i }

  -- The systems that a finished run leaves.
  pub left_systems : {e : Ended} {n : ℕ} → Ran e p r.steps r.outcome v most → r.outcome ≡ Systems n
      → (ss : List Stored) × Held v most (record { branches = []; systems = ss }) × AllListed ss
  left_systems {e = finished n ss} x o = let l = x.left in (l.0, l.1, l.2.listed)
  left_systems {e = refused n why} x o =
      let a = x.outcome in absurd (let z : ◌≡◌ {A = ℕ} 0 1 = cc in omega arith)

  pub list_written : {e : Ended} {n : ℕ} (t : Input) (room m q k : ℕ) (out out' : List ℕ) → Ran e p r.steps r.outcome v most → r.outcome ≡ Systems n → Needs v most m
      → m ≤ room → t.modulus ≡ q → t.variables ≡ k
      → ((ss : List Stored) → Held v most (record { branches = []; systems = ss })
      → out' ≡ list_words (listing_of q k ss) ++ drop (4 * list_records (reverse (map system_of ss))) out) → Delivered (delivered room t e) r out out'
  list_written {e = finished n ss} t room m q k out out' x o needs h eq ek w =
      let l = x.left in
      let size : m ≡ list_records ss = needs l.0 l.1 l.2.listed ∙ ap list_records l.3 in
      let words : List ℕ = list_words (record { modulus = t.modulus; variables = t.variables; systems = ss }) in
      let is : delivered room t (finished n ss) ≡ listed n ss words =
      ap (λ (b : Bool). elim b as (λ b. Eliminated) [ true ↦ turned_back n Output 0 | false ↦ listed n ss words ])
      (le-ltb room (list_records ss) (omega arith)) in
      let long : length words ≡ 4 * list_records ss = length_list (record { modulus = t.modulus; variables = t.variables; systems = ss }) in
      let written : out' ≡ words ++ drop (4 * list_records ss) out =
      w l.0 l.1 ∙ (λ i. list_words (record { modulus = sym eq i; variables = sym ek i; systems = l.3 i }) ++ drop (4 * list_records (l.3 i)) out) in
      subst (λ (d : Eliminated). Delivered d r out out') (sym is)
      (record { answer = whole x; output = written ∙ ap (λ (c : ℕ). words ++ drop c out) (sym long) })
  list_written {e = refused n why} t room m q k out out' x o needs h eq ek w =
      let a = x.outcome in absurd (let z : ◌≡◌ {A = ℕ} 0 1 = cc in omega arith)
