-- What is found by way of the open branch's own record: the polynomials of P from `first` on, and those of Q from where P ends.
use mathlib.Core.Path.{◌≡◌, sym, ap, ap₂, ◌∙◌}
use mathlib.Core.List.{List, [], ◌++◌}
use Prim.Native.Nat.{ℕ, ◌+◌, ◌≤◌}
use native.Mathlib.Omega.{arith}
use lib.ListN.{length, take, drop, get_or}
use lib.Seq.{length-take-le, take_all}
use Rattle.residues.specs.laws.Each.{each_take}
use Rattle.records.specs.Records.{Rec, zero_record}
use Rattle.stored.specs.Stored.{polys_records, skip_to, polys_at, Storable}
use Rattle.branches.specs.declared.Open.{Open}
use Rattle.branches.specs.Area.{Stored, Held, with_open}
use Rattle.branches.specs.Open.{open_of}
use Rattle.branches.proofs.AreaLaws.{lies, place, place_add, at_of, at_is, own_read, skips, finds, place_inside}
use Rattle.branches.proofs.AreaLaws.{parted_p, parted_q, parted_q_behind}
use Rattle.branches.proofs.ControlLaws.{w0_is, w1_is, w2_is}
use Rattle.polynomials.specs.declared.Term.{Term as Packed}

-- What the control record and the branch's own say.
pub opened_is : {v : List Rec} {most : ℕ} {b : Stored} {bs ss : List Stored} (H : Held v most (with_open b bs ss)) {at p q t : ℕ} → at ≡ (get_or v 0 zero_record).w0
    → p ≡ (get_or v at zero_record).w0 → q ≡ (get_or v at zero_record).w1 → t ≡ (get_or v at zero_record).w2
    → ◌≡◌ {A = Open} (record { first = at + 1; p = p; q = q; t = t }) (open_of b bs)
opened_is H {at} a p q t =
    let own = own_read H at a in λ k. record { first = at_is H at a k + 1; p = w0_is own p k; q = w1_is own q k; t = w2_is own t k }

module _ {v : List Rec} {most : ℕ} {b : Stored} {bs ss : List Stored} (H : Held v most (with_open b bs ss)) {o : Open} (e : o ≡ open_of b bs) where
  pub p_is : o.p ≡ length b.P
  p_is = ap (λ (o : Open). o.p) e

  pub q_is : o.q ≡ length b.Q
  q_is = ap (λ (o : Open). o.q) e

  pub t_is : o.t ≡ length b.T
  t_is = ap (λ (o : Open). o.t) e

  first_is : o.first ≡ place (at_of bs) []
  unfolding polys_records
  first_is = omega (arith, ap (λ (o : Open). o.first) e)

  -- ── P ──
  in_p : (k : ℕ) → k ≤ length b.P → polys_at v o.first k ≡ take k b.P
  in_p k h =
      ap₂ (polys_at v) first_is (sym (length-take-le k b.P h))
      ∙ finds (lies H) [] (take k b.P) (drop k b.P ++ (b.Q ++ b.T)) (parted_p b k) (each_take Storable k b.P H.storable.0.0.0)

  pub skip_p : (k : ℕ) → k ≤ length b.P → skip_to v o.first k ≡ place (at_of bs) (take k b.P)
  skip_p k h =
      ap₂ (skip_to v) first_is (sym (length-take-le k b.P h)) ∙ skips (lies H) [] (take k b.P) (drop k b.P ++ (b.Q ++ b.T)) (parted_p b k)
      ∙ sym (place_add (at_of bs) [] (take k b.P))

  pub skip_p_inside : (k : ℕ) → k ≤ length b.P → skip_to v o.first k ≤ most
  skip_p_inside k h = place_inside H (take k b.P) (drop k b.P ++ (b.Q ++ b.T)) (parted_p b k) (skip_p k h)

  pub end_p : skip_to v o.first o.p ≡ place (at_of bs) b.P
  end_p = skip_p o.p (omega (arith, p_is)) ∙ ap (place (at_of bs)) (take_all o.p b.P (omega (arith, p_is)))

  pub end_p_inside : skip_to v o.first o.p ≤ most
  end_p_inside = skip_p_inside o.p (omega (arith, p_is))

  pub all_p : polys_at v o.first o.p ≡ b.P
  all_p = in_p o.p (omega (arith, p_is)) ∙ take_all o.p b.P (omega (arith, p_is))

  -- ── Q ──
  module _ {from : ℕ} (s : from ≡ skip_to v o.first o.p) where
    pub in_q : (k : ℕ) → k ≤ length b.Q → polys_at v from k ≡ take k b.Q
    in_q k h =
        ap₂ (polys_at v) (s ∙ end_p) (sym (length-take-le k b.Q h))
        ∙ finds (lies H) b.P (take k b.Q) (drop k b.Q ++ b.T) (parted_q_behind b k) (each_take Storable k b.Q H.storable.0.0.1)

    pub skip_q : (k : ℕ) → k ≤ length b.Q → skip_to v from k ≡ place (at_of bs) (b.P ++ take k b.Q)
    skip_q k h =
        ap₂ (skip_to v) (s ∙ end_p) (sym (length-take-le k b.Q h)) ∙ skips (lies H) b.P (take k b.Q) (drop k b.Q ++ b.T) (parted_q_behind b k)
        ∙ sym (place_add (at_of bs) b.P (take k b.Q))

    pub skip_q_inside : (k : ℕ) → k ≤ length b.Q → skip_to v from k ≤ most
    skip_q_inside k h = place_inside H (b.P ++ take k b.Q) (drop k b.Q ++ b.T) (parted_q b k) (skip_q k h)

    pub end_q : skip_to v from o.q ≡ place (at_of bs) (b.P ++ b.Q)
    end_q = skip_q o.q (omega (arith, q_is)) ∙ ap (λ (l : List (List Packed)). place (at_of bs) (b.P ++ l)) (take_all o.q b.Q (omega (arith, q_is)))

    pub end_q_inside : skip_to v from o.q ≤ most
    end_q_inside = skip_q_inside o.q (omega (arith, q_is))

    pub all_q : polys_at v from o.q ≡ b.Q
    all_q = in_q o.q (omega (arith, q_is)) ∙ take_all o.q b.Q (omega (arith, q_is))
