-- A branch against itself without a member, and with a member of P moved to T; and which places the code finds for them.
use mathlib.Core.Path.{◌≡◌, sym, subst, ◌∙◌}
use mathlib.Core.List.{List, [], ◌∷◌, ◌++◌, append_assoc}
use Prim.Native.Nat.{ℕ, ◌+◌, ◌-◌, ◌≤◌, ◌<◌}
use native.Mathlib.Omega.{arith}
use lib.ListN.{length, get_or}
use Rattle.records.specs.Records.{Rec, view}
use Rattle.stored.specs.Stored.{skip_to}
use Rattle.branches.specs.Words.{remove}
use Rattle.branches.specs.laws.Words.{length_remove}
use Rattle.branches.specs.Area.{Stored, Held, HeldIn, with_open, without_p, without_q, closed, OpenBecomes}
use Rattle.branches.proofs.LengthLaws.{held_by}
use Rattle.branches.specs.declared.Member.{Member}
use Rattle.branches.specs.declared.Member.TheVariants.{P, Q}
use Rattle.branches.specs.Members.{HasMember, member_of, members_before, without, behind}
use Rattle.branches.specs.declared.Open.{Open}
use Rattle.branches.specs.Open.{open_of}
use Rattle.branches.proofs.MemberLaws.{members_behind, parted_at, parted_without}
use Rattle.branches.proofs.OpenLaws.{p_is, q_is, end_q}
use Rattle.branches.proofs.RowLaws.{end_row, top_row}
use Rattle.places.specs.Places.{More, Counts, PutAt, TakeAt, free_records}
use Rattle.branches.proofs.LeavesLaws.{size_free}
use Rattle.places.proofs.PlaceLaws.{more_size, counts_are}
use Rattle.polynomials.specs.declared.Term.{Term as Packed}

-- ── a member taken out ──
more_member : (m : Member) (b : Stored) → HasMember m b → More (without m b) b (members_before m b) (member_of m b) (members_behind m b)
more_member m b h = record { less = parted_without m b; more = parted_at m b h }

counts_p : (i : ℕ) (b : Stored) {p q t : ℕ} → i < length b.P → Counts p q t b → Counts (p - 1) q t (without_p i b)
counts_p i b h n = record { in_p = omega (arith, n.in_p, length_remove i b.P h); in_q = n.in_q; in_t = n.in_t }

counts_q : (i : ℕ) (b : Stored) {p q t : ℕ} → i < length b.Q → Counts p q t b → Counts p (q - 1) t (without_q i b)
counts_q i b h n = record { in_p = n.in_p; in_q = omega (arith, n.in_q, length_remove i b.Q h); in_t = n.in_t }

module _ {w : List (List ℕ)} {b : Stored} {bs ss : List Stored} (H : HeldIn w (with_open b bs ss)) {o : Open} (e : o ≡ open_of b bs) where
  take : {from p q t : ℕ} (m : Member) → HasMember m b → from ≡ behind bs (members_before m b) → Counts p q t (without m b) → TakeAt w from p q t (without m b) bs ss
  take m h there counts = record {
    c = b;
    held = H;
    xs = members_before m b;
    f = member_of m b;
    ys = members_behind m b;
    takes = more_member m b h;
    there = there;
    counts = counts;
  }

  -- The member m of P, and of Q; there is one.
  module _ (m : Member) (h : HasMember m b) {from : ℕ} (there : from ≡ behind bs (members_before m b)) {i : ℕ} where
    pub take_p : m ≡ P i → TakeAt w from (o.p - 1) o.q o.t (without m b) bs ss
    take_p is = take m h there (subst (λ (m : Member). HasMember m b → Counts (o.p - 1) o.q o.t (without m b)) (sym is) (λ (j : i < length b.P). counts_p i b j (counts_are H e)) h)

    pub take_q : m ≡ Q i → TakeAt w from o.p (o.q - 1) o.t (without m b) bs ss
    take_q is = take m h there (subst (λ (m : Member). HasMember m b → Counts o.p (o.q - 1) o.t (without m b)) (sym is) (λ (j : i < length b.Q). counts_q i b j (counts_are H e)) h)

module _ {v : List Rec} {most : ℕ} {b : Stored} {bs ss : List Stored} (H : Held v most (with_open b bs ss)) {o : Open} (e : o ≡ open_of b bs) where
  module _ (m : Member) (h : HasMember m b) {i : ℕ} where
    pub some_p : m ≡ P i → 1 ≤ o.p
    some_p is = let j : i < length b.P = subst (λ (m : Member). HasMember m b) is h in omega (arith, p_is H e)

    pub some_q : m ≡ Q i → 1 ≤ o.q
    some_q is = let j : i < length b.Q = subst (λ (m : Member). HasMember m b) is h in omega (arith, q_is H e)

-- ── a member of P moved to the front of T ──
-- It is taken out first.
pub taken : (w w₁ : List (List ℕ)) (same : length w₁ ≡ length w) (i : ℕ) → OpenBecomes (without_p i) w w₁ → {b : Stored} {bs ss : List Stored} → HeldIn w (with_open b bs ss)
    → HeldIn w₁ (with_open (without_p i b) bs ss)
taken w w₁ same i become H = held_by _ _ w w₁ (sym same) (become _ _ _ H)

module _ (b : Stored) (i : ℕ) where
  more_t : More (without_p i b) (closed i b) (remove i b.P ++ b.Q) (get_or b.P i []) b.T
  more_t = record {
    less = sym (append_assoc (remove i b.P) b.Q b.T);
    more = sym (append_assoc (remove i b.P) b.Q (get_or b.P i [] ∷ b.T));
  }

  counts_t : {p q t : ℕ} → Counts p q t (without_p i b) → Counts p q (t + 1) (closed i b)
  counts_t n = record { in_p = n.in_p; in_q = n.in_q; in_t = omega (arith, n.in_t) }

  -- As many records are free as it took, at the least.
  pub freed : (w w₁ : List (List ℕ)) {bs ss : List Stored} → length w₁ ≡ length w → i < length b.P → HeldIn w (with_open b bs ss)
      → HeldIn w₁ (with_open (without_p i b) bs ss) → length (get_or b.P i []) + 1 ≤ free_records w₁
  freed w w₁ {bs} {ss} same h H K = omega (arith, more_size (more_member (P i) b h) bs ss, size_free H, size_free K, top_row w₁ K, end_row w₁ K)

-- The member of P that was taken out, f, goes in before T, behind Q.
module _ {w : List (List ℕ)} (b : Stored) (i : ℕ) {bs ss : List Stored} (H : HeldIn w (with_open (without_p i b) bs ss))
    {o : Open} (e : o ≡ open_of (without_p i b) bs) where
  pub put_t : (f : List Packed) {behind_p to : ℕ} → get_or b.P i [] ≡ f → behind_p ≡ skip_to (view w) o.first o.p → to ≡ skip_to (view w) behind_p o.q
      → PutAt w to f o.p o.q (o.t + 1) (closed i b) bs ss
  put_t f is s there = record {
    b = without_p i b;
    held = H;
    xs = remove i b.P ++ b.Q;
    ys = b.T;
    adds = subst (λ (g : List Packed). More (without_p i b) (closed i b) (remove i b.P ++ b.Q) g b.T) is (more_t b i);
    there = there ∙ end_q H e s;
    counts = counts_t b i (counts_are H e);
  }
