-- When a put into P or Q keeps the branch, and when it adds the polynomial.
use mathlib.Core.Path.{◌≡◌, refl, sym, ap, ap₂, ◌∙◌, subst}
use mathlib.Core.Logic.{◌≢◌}
use mathlib.Core.Bool.{Bool, true, false, ◌||◌}
use mathlib.Core.List.{List, [], ◌∷◌, ◌++◌, append_assoc}
use Prim.Native.Nat.{ℕ, ◌+◌, ◌-◌, ◌≤◌}
use native.Mathlib.Omega.{arith}
use lib.ListN.{length, take, drop, length-append, take-append-drop}
use Rattle.std.specs.Prelude.{Ok}
use Rattle.records.specs.Records.{Rec, view}
use Rattle.stored.specs.Stored.{member, skip_to, polys_at}
use Rattle.branches.specs.Words.{put_p, put_q, put_q_before, is_zero, is_one, unless}
use Rattle.branches.specs.Area.{Stored, Held, HeldIn, Leaves, with_open, put_into_p, put_into_q}
use Rattle.branches.specs.declared.Open.{Open}
use Rattle.branches.specs.Open.{open_of}
use Rattle.branches.proofs.AreaLaws.{place, at_of, parted_q}
use Rattle.branches.proofs.OpenLaws.{end_p, q_is, in_q, skip_q, skip_q_inside}
use Rattle.places.specs.Places.{More, Counts, PutAt}
use Rattle.branches.proofs.LeavesLaws.{leaves_held}
use Rattle.places.proofs.PlaceLaws.{counts_are}
use Rattle.polynomials.specs.declared.Term.{Term as Packed}

pub leaves_same : {v : List Rec} {most : ℕ} {b : Stored} {bs ss : List Stored} → Held v most (with_open b bs ss) → (c : Stored) → b ≡ c
    → Leaves most (with_open b bs ss) (with_open c bs ss) (Ok tt) v
leaves_same {v} {most} {bs = bs} {ss} H c e = leaves_held (subst (λ (x : Stored). Held v most (with_open x bs ss)) e H)

-- ── P ──
pub put_p_zero : (f : List Packed) (fs : List (List Packed)) → length f ≡ 0 → put_p f fs ≡ fs
unfolding put_p is_zero
put_p_zero [] fs h = refl
put_p_zero (x ∷ f) fs h = absurd (omega arith)

pub put_p_found : (f : List Packed) (fs : List (List Packed)) → member f fs ≡ true → put_p f fs ≡ fs
unfolding put_p is_zero
put_p_found [] fs h = refl
put_p_found (x ∷ f) fs h = ap (λ (t : Bool). unless t (x ∷ f) fs) h

pub put_p_new : (f : List Packed) (fs : List (List Packed)) → (length f ≡ 0 → ⊥) → member f fs ≡ false → put_p f fs ≡ fs ++ (f ∷ [])
unfolding put_p is_zero
put_p_new [] fs n h = absurd (n refl)
put_p_new (x ∷ f) fs n h = ap (λ (t : Bool). unless t (x ∷ f) fs) h

module _ (f : List Packed) (b : Stored) where
  pub kept_p : put_p f b.P ≡ b.P → b ≡ put_into_p f b
  kept_p e = λ t. record { P = sym e t; Q = b.Q; T = b.T }

  module _ (e : put_p f b.P ≡ b.P ++ (f ∷ [])) where
    pub more_p : More b (put_into_p f b) b.P f (b.Q ++ b.T)
    more_p = record { less = refl; more = ap (λ (l : List (List Packed)). l ++ (b.Q ++ b.T)) e ∙ append_assoc b.P (f ∷ []) (b.Q ++ b.T) }

    pub counts_p : {p q t : ℕ} → Counts p q t b → Counts (p + 1) q t (put_into_p f b)
    counts_p n = record { in_p = omega (arith, n.in_p, ap length e, length-append b.P (f ∷ [])); in_q = n.in_q; in_t = n.in_t }

-- What is new goes in behind P.
module _ {w : List (List ℕ)} {b : Stored} {bs ss : List Stored} (H : HeldIn w (with_open b bs ss)) {o : Open} (e : o ≡ open_of b bs) {to : ℕ} (f : List Packed) where
  unfoldable pub put_in_p : length f ≢ 0 → member f b.P ≡ false → to ≡ skip_to (view w) o.first o.p
      → PutAt w to f (o.p + 1) o.q o.t (put_into_p f b) bs ss
  put_in_p some found there =
      let new = put_p_new f b.P some found in
      record { b = b; held = H; xs = b.P; ys = b.Q ++ b.T; adds = more_p f b new; there = there ∙ end_p H e; counts = counts_p f b new (counts_are H e) }

-- ── Q ──
pub put_q_one : (f : List Packed) (fs : List (List Packed)) → is_one f ≡ true → put_q f fs ≡ fs
unfolding put_q
put_q_one f fs h = ap (λ (t : Bool). unless (t || member f fs) f fs) h

pub put_q_found : (f : List Packed) (fs : List (List Packed)) → member f fs ≡ true → put_q f fs ≡ fs
unfolding put_q
put_q_found f fs h = go (is_one f)
  where
    go : (t : Bool) → unless (t || member f fs) f fs ≡ fs
    go true = refl
    go false = ap (λ (m : Bool). unless m f fs) h

pub put_q_new : (f : List Packed) (fs : List (List Packed)) → is_one f ≡ false → member f fs ≡ false → put_q f fs ≡ fs ++ (f ∷ [])
unfolding put_q
put_q_new f fs n h = ap₂ (λ (t m : Bool). unless (t || m) f fs) n h

-- How many members of Q are looked at.
abbrev pub seen : ℕ → Stored → ℕ
seen left b = length b.Q - left

-- They lie behind P.
module _ {v : List Rec} {most : ℕ} {b : Stored} {bs ss : List Stored} (H : Held v most (with_open b bs ss)) {o : Open} (e : o ≡ open_of b bs)
    {from : ℕ} (s : from ≡ skip_to v o.first o.p) (left : ℕ) where
  pub seen_q : polys_at v from (o.q - left) ≡ take (seen left b) b.Q
  seen_q = ap (λ (k : ℕ). polys_at v from (k - left)) (q_is H e) ∙ in_q H e s (seen left b) (omega arith)

  pub behind_seen : skip_to v from (o.q - left) ≡ place (at_of bs) (b.P ++ take (seen left b) b.Q)
  behind_seen = ap (λ (k : ℕ). skip_to v from (k - left)) (q_is H e) ∙ skip_q H e s (seen left b) (omega arith)

  pub seen_inside : skip_to v from (o.q - left) ≤ most
  seen_inside = skip_q_inside H e s (o.q - left) (omega (arith, q_is H e))

module _ (left : ℕ) (f : List Packed) (b : Stored) where
  pub kept_q : put_q f (take (seen left b) b.Q) ≡ take (seen left b) b.Q → b ≡ put_into_q left f b
  unfolding put_q_before
  kept_q e = λ t. record {
    P = b.P;
    Q = sym (ap (λ (l : List (List Packed)). l ++ drop (seen left b) b.Q) e ∙ take-append-drop (seen left b) b.Q) t;
    T = b.T;
  }

  module _ (e : put_q f (take (seen left b) b.Q) ≡ take (seen left b) b.Q ++ (f ∷ [])) where
    new_q : put_q_before left f b.Q ≡ take (seen left b) b.Q ++ (f ∷ drop (seen left b) b.Q)
    unfolding put_q_before
    new_q =
        ap (λ (l : List (List Packed)). l ++ drop (seen left b) b.Q) e ∙ append_assoc (take (seen left b) b.Q) (f ∷ []) (drop (seen left b) b.Q)

    pub more_q : More b (put_into_q left f b) (b.P ++ take (seen left b) b.Q) f (drop (seen left b) b.Q ++ b.T)
    more_q = record {
      less = parted_q b (seen left b);
      more = ap (λ (l : List (List Packed)). b.P ++ (l ++ b.T)) new_q
          ∙ ap (λ (l : List (List Packed)). b.P ++ l) (append_assoc (take (seen left b) b.Q) (f ∷ drop (seen left b) b.Q) b.T)
          ∙ sym (append_assoc b.P (take (seen left b) b.Q) (f ∷ (drop (seen left b) b.Q ++ b.T)));
    }

    pub counts_q : {p q t : ℕ} → Counts p q t b → Counts p (q + 1) t (put_into_q left f b)
    counts_q n =
        let xs : List (List Packed) = take (seen left b) b.Q in
        let ys : List (List Packed) = drop (seen left b) b.Q in
        let is = ap length new_q in
        let new = length-append xs (f ∷ ys) in
        let old = length-append xs ys in
        let whole = ap length (take-append-drop (seen left b) b.Q) in
        record { in_p = n.in_p; in_q = omega (arith, n.in_q); in_t = n.in_t }

-- What is new goes in behind the members of Q that are looked at.
module _ {w : List (List ℕ)} {b : Stored} {bs ss : List Stored} (H : HeldIn w (with_open b bs ss)) {o : Open} (e : o ≡ open_of b bs)
    {from to : ℕ} (s : from ≡ skip_to (view w) o.first o.p) (left : ℕ) (f : List Packed) where
  unfoldable pub put_in_q : is_one f ≡ false → member f (take (seen left b) b.Q) ≡ false → to ≡ skip_to (view w) from (o.q - left)
      → PutAt w to f o.p (o.q + 1) o.t (put_into_q left f b) bs ss
  put_in_q one found there =
      let new = put_q_new f (take (seen left b) b.Q) one found in
      record {
        b = b;
        held = H;
        xs = b.P ++ take (seen left b) b.Q;
        ys = drop (seen left b) b.Q ++ b.T;
        adds = more_q left f b new;
        there = there ∙ behind_seen H e s left;
        counts = counts_q left f b new (counts_are H e);
      }
