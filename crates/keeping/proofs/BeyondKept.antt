-- The pieces of the branch that stays open are written before the first record beyond 65,536: those beyond stay.
use mathlib.Core.Path.{◌≡◌, ap, ◌∙◌}
use mathlib.Core.List.{List}
use Prim.Native.Nat.{ℕ, ◌+◌, ◌-◌, ◌≤◌, ◌<◌}
use native.Mathlib.Omega.{arith}
use lib.ListN.{length, drop, set, length-set, length-drop}
use lib.Seq.{paste}
use Rattle.std.proofs.lemmas.List.Edits.{length-paste}
use Rattle.records.specs.Records.{Rec, record_of, moved}
use Rattle.stored.specs.Stored.{poly_records}
use Rattle.stored.specs.laws.Stored.{length_poly_records}
use Rattle.branches.proofs.BeyondLaws.{set_beyond, stored_beyond, moved_beyond}
use Rattle.keeping.proofs.KeptLaws.{Ordered, Copied}
use Rattle.polynomials.specs.declared.Term.{Term as Packed}

-- As many records, and the same beyond.
abbrev Alike : List Rec → List Rec → Type 0
Alike v v₁ = (length v₁ ≡ length v) × (drop 65536 v₁ ≡ drop 65536 v)

module _ (v v₁ : List Rec) where
  set_alike : (i : ℕ) (r : Rec) → v₁ ≡ set v i r → i < 65536 → Alike v v₁
  set_alike i r e h = (ap length e ∙ length-set v i r, set_beyond v v₁ i r e h)

  stored_alike : (at n : ℕ) (s : List Rec) → v₁ ≡ paste v at s n → n ≤ length s → at + n ≤ length v → at + n ≤ 65536 → Alike v v₁
  stored_alike at n s e k h few = (ap length e ∙ length-paste v at s n h k, stored_beyond v v₁ at n s e (omega (arith, h)) k few)

  moved_alike : (from n to : ℕ) → v₁ ≡ moved v from n to → from ≤ to → to + n ≤ length v → to + n ≤ 65536 → Alike v v₁
  moved_alike from n to e h k few = stored_alike to n (drop from v) e (omega (arith, h, k, length-drop from v)) k few

module _ {n at end top q front back from_q from_t room systems t : ℕ} {f initial : List Packed} {v v₈ : List Rec}
    (O : Ordered n at end top q front back from_q from_t room) (e : room ≡ length v)
    (fits : 1 + (back - (at + 1)) + (length f + 1) + (from_t - from_q) + (length initial + 1) + (end - from_t) ≤ top - end)
    (K : Copied v n at end top systems q t front back from_q from_t f initial v₈) where
  pub copied_beyond : drop 65536 v₈ ≡ drop 65536 v
  copied_beyond =
      let i₁ = K.front_copied.0 in
      let i₂ = K.f_put.0 in
      let i₃ = K.back_copied.0 in
      let i₄ = K.q_copied.0 in
      let i₅ = K.initial_put.0 in
      let s₁ = set_alike v K.v₁ end (record_of (n + 1) (q + 1) t at) K.own_put (omega (arith, O, fits)) in
      let s₂ = moved_alike K.v₁ K.v₂ (at + 1) (front - (at + 1)) (end + 1) K.front_copied.1 (omega (arith, O)) (omega (arith, O, fits, e, s₁.0)) (omega (arith, O, fits)) in
      let s₃ = stored_alike K.v₂ K.v₃ K.a₁ (length f + 1) (poly_records f) K.f_put.1 (omega (arith, length_poly_records f)) (omega (arith, O, fits, e, s₁.0, s₂.0, i₁)) (omega (arith, O, fits, i₁)) in
      let s₄ = moved_alike K.v₃ K.v₄ front (back - front) K.a₂ K.back_copied.1 (omega (arith, O, i₁, i₂)) (omega (arith, O, fits, e, s₁.0, s₂.0, s₃.0, i₁, i₂)) (omega (arith, O, fits, i₁, i₂)) in
      let s₅ =
      moved_alike K.v₄ K.v₅ from_q (from_t - from_q) K.a₃ K.q_copied.1 (omega (arith, O, i₁, i₂, i₃)) (omega (arith, O, fits, e, s₁.0, s₂.0, s₃.0, s₄.0, i₁, i₂, i₃))
      (omega (arith, O, fits, i₁, i₂, i₃)) in
      let s₆ =
      stored_alike K.v₅ K.v₆ K.a₄ (length initial + 1) (poly_records initial) K.initial_put.1 (omega (arith, length_poly_records initial))
      (omega (arith, O, fits, e, s₁.0, s₂.0, s₃.0, s₄.0, s₅.0, i₁, i₂, i₃, i₄)) (omega (arith, O, fits, i₁, i₂, i₃, i₄)) in
      let s₇ =
      moved_alike K.v₆ K.v₇ from_t (end - from_t) K.a₅ K.t_copied.1 (omega (arith, O, i₁, i₂, i₃, i₄, i₅))
      (omega (arith, O, fits, e, s₁.0, s₂.0, s₃.0, s₄.0, s₅.0, s₆.0, i₁, i₂, i₃, i₄, i₅)) (omega (arith, O, fits, i₁, i₂, i₃, i₄, i₅)) in
      set_beyond K.v₇ v₈ 0 (record_of end K.a₆ top systems) K.control_put (omega arith) ∙ s₇.1 ∙ s₆.1 ∙ s₅.1 ∙ s₄.1 ∙ s₃.1 ∙ s₂.1 ∙ s₁.1
