-- The other polynomial of rule 4, by a pass from the left over the places.
use mathlib.Core.Path.{◌≡◌, refl, ap, ◌∙◌}
use mathlib.Core.Logic.{◌≢◌}
use mathlib.Core.Bool.{Bool, true, false}
use mathlib.Core.List.{List, [], ◌∷◌}
use Prim.Native.Nat.{ℕ, zero, suc, ◌+◌, ◌-◌, ◌<◌}
use native.Mathlib.Decide.{ℕ_discrete}
use native.Mathlib.Omega.{arith}
use borrow.Author.Tests.{eq-eqb, ne_eqb}
use lib.Dec.{eqb}
use Rattle.std.proofs.Common.{Option, None, Some}
use Rattle.polynomials.specs.Poly.{Poly}
use Rattle.polynomials.specs.Division.{leader}
use Rattle.rules.specs.Branch.{led_by, Found, none, found, behind, earliest, other}
use Rattle.polynomials.specs.Packed.{terms}
use Rattle.records.specs.Records.{Rec, view}
use Rattle.stored.specs.Stored.{poly_at}
use Rattle.stored.proofs.Laws.{past}
use Rattle.heads.proofs.Walk.{all_at, all_on, hold_here, hold_on, passing}
use Rattle.search.specs.Search.{other_place}

-- What is found among those from place j on.
abbrev from : ℕ → Found → Option ℕ
from j none = None
from j (found c) = Some (j + c.place)

from_behind : (j : ℕ) (o : Found) → from (j + 1) o ≡ from j (behind o)
from_behind j none = refl
from_behind j (found c) = ap Some {x = j + 1 + c.place} {y = j + suc c.place} (omega arith)

from_zero : (o : Found) → from 0 o ≡ other_place o
from_zero none = refl
from_zero (found c) = ap Some {x = 0 + c.place} {y = c.place} (omega arith)

module _ (k place : ℕ) where
  -- The earliest that v(k+1) leads among fs, from place j on, other than the one at `place`.
  unfoldable pub scan : ℕ → List Poly → Option ℕ
  scan j [] = None
  scan j (f ∷ fs) = elim (eqb j place) [ true ↦ scan (j + 1) fs | false ↦ elim (led_by (suc k) f) [ true ↦ Some j | false ↦ scan (j + 1) fs ] ]

  scan_pivot : (j : ℕ) (f : Poly) (fs : List Poly) → j ≡ place → scan j (f ∷ fs) ≡ scan (j + 1) fs
  unfolding scan
  scan_pivot j f fs e =
      ap (λ (b : Bool). elim b as (λ b. Option ℕ) [ true ↦ scan (j + 1) fs | false ↦ elim (led_by (suc k) f) [ true ↦ Some j | false ↦ scan (j + 1) fs ] ]) (eq-eqb j place e)

  scan_else : (j : ℕ) (f : Poly) (fs : List Poly) → j ≢ place → scan j (f ∷ fs) ≡ (elim (led_by (suc k) f) as (λ b. Option ℕ) [ true ↦ Some j | false ↦ scan (j + 1) fs ])
  unfolding scan
  scan_else j f fs n =
      ap (λ (b : Bool). elim b as (λ b. Option ℕ) [ true ↦ scan (j + 1) fs | false ↦ elim (led_by (suc k) f) [ true ↦ Some j | false ↦ scan (j + 1) fs ] ]) (ne_eqb j place n)

  scan_led : (j : ℕ) (f : Poly) (fs : List Poly) → j ≢ place → leader f ≡ suc k → scan j (f ∷ fs) ≡ Some j
  unfolding led_by
  scan_led j f fs n e = scan_else j f fs n ∙ ap (λ (b : Bool). elim b as (λ b. Option ℕ) [ true ↦ Some j | false ↦ scan (j + 1) fs ]) (eq-eqb (leader f) (suc k) e)

  scan_unled : (j : ℕ) (f : Poly) (fs : List Poly) → j ≢ place → leader f ≢ suc k → scan j (f ∷ fs) ≡ scan (j + 1) fs
  unfolding led_by
  scan_unled j f fs n e = scan_else j f fs n ∙ ap (λ (b : Bool). elim b as (λ b. Option ℕ) [ true ↦ Some j | false ↦ scan (j + 1) fs ]) (ne_eqb (leader f) (suc k) e)

  -- One that v(k+1) leads, or what is found behind it.
  first_or_behind : (j : ℕ) (f : Poly) (fs : List Poly) (o : Found) → scan (j + 1) fs ≡ from (j + 1) o → (b : Bool) →
      (elim b as (λ b. Option ℕ) [ true ↦ Some j | false ↦ scan (j + 1) fs ])
      ≡ from j (elim b as (λ b. Found) [ true ↦ found (record { place = 0; poly = f }) | false ↦ behind o ])
  first_or_behind j f fs o h true = ap Some {x = j} {y = j + 0} (omega arith)
  first_or_behind j f fs o h false = h ∙ from_behind j o

  scan_earliest : (fs : List Poly) (j : ℕ) → place < j → scan j fs ≡ from j (earliest k fs)
  unfolding scan earliest
  scan_earliest [] j h = refl
  scan_earliest (f ∷ fs) j h =
      scan_else j f fs (λ (e : j ≡ place). omega arith) ∙ first_or_behind j f fs (earliest k fs) (scan_earliest fs (j + 1) (omega arith)) (led_by (suc k) f)

  scan_other : (fs : List Poly) (i j : ℕ) → place ≡ j + i → scan j fs ≡ from j (other k i fs)
  unfolding scan other
  scan_other [] zero j e = refl
  scan_other [] (suc i) j e = refl
  scan_other (f ∷ fs) zero j e = scan_pivot j f fs (omega arith) ∙ scan_earliest fs (j + 1) (omega arith) ∙ from_behind j (earliest k fs)
  scan_other (f ∷ fs) (suc i) j e =
      scan_else j f fs (λ (q : j ≡ place). omega arith) ∙ first_or_behind j f fs (other k i fs) (scan_other fs i (j + 1) (omega arith)) (led_by (suc k) f)

  -- ── stored polynomials ──
  pub scan_polys : (v : List Rec) (i n : ℕ) → scan 0 (all_at v i n) ≡ other_place (other k place (all_at v i n))
  scan_polys v i n = scan_other (all_at v i n) place 0 (omega arith) ∙ from_zero (other k place (all_at v i n))

  pub scan_end : (j : ℕ) (v : List Rec) (i n : ℕ) → n ≡ 0 → scan j (all_at v i n) ≡ None
  unfolding scan
  scan_end j v i n e = ap (λ (m : ℕ). scan j (all_at v i m)) e

  -- A turn at record i, after j of n.
  module _ (w : List (List ℕ)) (i n j : ℕ) (some : j < n) where
    pub scan_pivot_on : j ≡ place → scan j (all_at (view w) i (n - j)) ≡ scan (j + 1) (all_at (view w) (past w i) (n - (j + 1)))
    scan_pivot_on e = ap (scan j) (all_on w i n j some) ∙ scan_pivot j (terms (poly_at (view w) i)) (all_at (view w) (past w i) (n - (j + 1))) e

    pub scan_led_on : j ≢ place → leader (terms (poly_at (view w) i)) ≡ k + 1 → scan j (all_at (view w) i (n - j)) ≡ Some j
    scan_led_on d e =
        let led : leader (terms (poly_at (view w) i)) ≡ suc k = omega arith in
        ap (scan j) (all_on w i n j some) ∙ scan_led j (terms (poly_at (view w) i)) (all_at (view w) (past w i) (n - (j + 1))) d led

    pub scan_unled_on : leader (terms (poly_at (view w) i)) ≢ k + 1
        → scan j (all_at (view w) i (n - j)) ≡ scan (j + 1) (all_at (view w) (past w i) (n - (j + 1)))
    scan_unled_on u =
        elim (ℕ_discrete j place) [
          | yes e ↦ scan_pivot_on e
          | no d ↦
              ap (scan j) (all_on w i n j some)
              ∙ scan_unled j (terms (poly_at (view w) i)) (all_at (view w) (past w i) (n - (j + 1))) d
              (λ (e : leader (terms (poly_at (view w) i)) ≡ suc k). u (omega arith))
        ]

-- What the proof of `other_from` takes.
pub ruleset scans = (passing, hold_here, hold_on, scan_pivot_on, scan_led_on, scan_unled_on, scan_end, scan_polys)
