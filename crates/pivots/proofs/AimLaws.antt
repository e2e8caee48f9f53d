-- What the search for another polynomial makes of rules 4 and 5.
use mathlib.Core.Path.{◌≡◌, sym, ap, ap₂, subst, ◌∙◌}
use mathlib.Core.List.{List}
use Prim.Native.Nat.{ℕ}
use native.Mathlib.Omega.{arith}
use lib.ListN.{length}
use Rattle.rules.specs.Branch.{Found, none, found}
use Rattle.records.specs.Records.{Rec}
use Rattle.branches.specs.Area.{Stored, Held, with_open, closed}
use Rattle.search.specs.Search.{other_place}
use Rattle.std.proofs.Common.{None, Some}
use Rattle.members.specs.declared.Dividends.{Dividends}
use Rattle.members.specs.declared.Dividends.TheVariants.{InP, InQ}
use Rattle.pivots.specs.declared.Division.{Division}
use Rattle.pivots.specs.Aimed.{division_of, aimed}

-- The answer's parts, and what is held then, are those of what was found.
module _ (k d n m i : ℕ) (b : Stored) (bs ss : List Stored) (v : List Rec) (most : ℕ) where
  abbrev Aims : Division → Found → Type 0
  Aims q o = (q ≡ division_of o k d n m b) × Held v most (with_open (aimed o i b) bs ss)

  pub aims_at : (o : Found) (j e : ℕ) {r : Dividends} {u : List Rec} → r ≡ InP j → v ≡ u → other_place o ≡ Some j → e ≡ d → Held u most (with_open b bs ss)
      → Aims (record { k = k; degree = e; pivot = n; initial = m; dividends = r }) o
  aims_at none j e q s x y h = let z : ◌≡◌ {A = ℕ} 0 1 = cc in absurd (omega arith)
  aims_at (found c) j e q s x y h =
      let at : j ≡ c.place = cc in (
        ap₂ (λ (e : ℕ) (r : Dividends). record { k = k; degree = e; pivot = n; initial = m; dividends = r }) y (q ∙ ap InP at),
        subst (λ v. Held v most (with_open b bs ss)) (sym s) h,
      )

  pub aims_all : (o : Found) (j e : ℕ) {r : Dividends} {u : List Rec} → r ≡ InQ j → v ≡ u → other_place o ≡ None → e ≡ d → j ≡ length b.Q
      → Held u most (with_open (closed i b) bs ss) → Aims (record { k = k; degree = e; pivot = n; initial = m; dividends = r }) o
  aims_all none j e q s x y z h = (
    ap₂ (λ (e : ℕ) (r : Dividends). record { k = k; degree = e; pivot = n; initial = m; dividends = r }) y (q ∙ ap InQ z),
    subst (λ v. Held v most (with_open (closed i b) bs ss)) (sym s) h,
  )
  aims_all (found c) j e q s x y z h = let o : ◌≡◌ {A = ℕ} 0 1 = cc in absurd (omega arith)
