-- The words of a record, and what the control record says of the listed systems.
use mathlib.Core.Path.{◌≡◌, ap, ◌∙◌}
use mathlib.Core.List.{List}
use Prim.Native.Nat.{ℕ, ◌-◌, ◌≤◌, ◌<◌}
use native.Mathlib.Omega.{arith}
use lib.ListN.{length, get_or}
use Rattle.records.specs.Records.{Rec, record_of, zero_record}
use Rattle.branches.specs.declared.Listed.{Listed}
use Rattle.branches.specs.Area.{Area, Held, systems_records}
use Rattle.branches.specs.Listed.{listed_of}

module _ {r : Rec} {x₀ x₁ x₂ x₃ n : ℕ} (e : r ≡ record_of x₀ x₁ x₂ x₃) where
  pub w0_is : n ≡ r.w0 → n ≡ x₀
  w0_is h = h ∙ ap (λ (u : Rec). u.w0) e

  pub w1_is : n ≡ r.w1 → n ≡ x₁
  w1_is h = h ∙ ap (λ (u : Rec). u.w1) e

  pub w2_is : n ≡ r.w2 → n ≡ x₂
  w2_is h = h ∙ ap (λ (u : Rec). u.w2) e

  pub w3_is : n ≡ r.w3 → n ≡ x₃
  w3_is h = h ∙ ap (λ (u : Rec). u.w3) e

-- ── the listed systems ──
module _ {v : List Rec} {most : ℕ} {a : Area} (H : Held v most a) where
  pub listed_is : {top count : ℕ} → top ≡ (get_or v 0 zero_record).w2 → count ≡ (get_or v 0 zero_record).w3 → ◌≡◌ {A = Listed} (record { top = top; count = count }) (listed_of most a)
  listed_is {top} t c =
      let ctl = ap (λ (l : List Rec). get_or l 0 zero_record) H.is in
      let starts : top ≡ most - length (systems_records a.systems) = omega (arith, w2_is ctl t, H.fits) in
      λ k. record { top = starts k; count = w3_is ctl c k }

  module _ {l : Listed} (e : l ≡ listed_of most a) where
    pub top_is : l.top ≡ most - length (systems_records a.systems)
    top_is = ap (λ (l : Listed). l.top) e

    pub count_is : l.count ≡ length a.systems
    count_is = ap (λ (l : Listed). l.count) e

    -- They start behind the control record, and inside.
    pub top_some : 0 < l.top
    top_some = omega (arith, top_is, H.fits)

    pub top_inside : l.top ≤ most
    top_inside = omega (arith, top_is, H.fits)
