-- The branch that stays open at a split: where the parts of the one set aside lie, what the copies leave, and what is held then.
use mathlib.Core.Path.{◌≡◌, refl, sym, ap, ◌∙◌}
use mathlib.Core.List.{List, [], ◌∷◌, ◌++◌, append_assoc}
use Prim.Native.Nat.{ℕ, suc, ◌+◌, ◌-◌, ◌≤◌, ◌<◌}
use native.Mathlib.Omega.{arith}
use Rattle.std.specs.Prelude.{Ok, Err}
use Rattle.tables.specs.declared.Reason.TheVariants.{Room}
use lib.ListN.{length, take, drop, set, length-append, length-drop, take-append-drop}
use lib.Seq.{take_at, drop-append-le, drop-append-add, length-take-le, paste, set_split}
use Rattle.residues.specs.Each.{Each}
use Rattle.residues.specs.laws.Each.{each_append, each_take, each_drop}
use Rattle.records.specs.Records.{Rec, record_of, view, moved}
use Rattle.stored.specs.Stored.{poly_records, polys_records, skip_to, Storable}
use Rattle.stored.specs.laws.Stored.{skip_to_polys_records, polys_records_append, polys_records_snoc, length_poly_records, length_le_polys_records}
use Rattle.branches.specs.Area.{Stored, Held, HeldIn, Leaves, stack, branch_records, systems_records, with_open, size, kept_open, StorableBranch}
use Rattle.keeping.proofs.PieceLaws.{Grown, grow_copied, grow_stored, top_left, last_part}
use Rattle.branches.specs.declared.Open.{Open}
use Rattle.branches.specs.Open.{open_of}
use Rattle.branches.proofs.LeavesLaws.{leaves_held, leaves_none}
use Rattle.branches.proofs.AreaLaws.{at_of, own_of, end_is, most_inside}
use Rattle.branches.proofs.OpenLaws.{p_is, q_is, t_is, skip_p}
use Rattle.branches.proofs.RowLaws.{ctl_word, own_word, open_row, start_row, end_row, top_row}
use Rattle.polynomials.specs.declared.Term.{Term as Packed}

-- ── the parts of P ──
abbrev pub front_p : ℕ → Stored → List Rec
front_p i c = polys_records (take i c.P)

abbrev pub back_p : ℕ → ℕ → Stored → List Rec
back_p i n c = polys_records (take (n - i) (drop i c.P))

abbrev pub new_p : ℕ → ℕ → Stored → List Rec
new_p i n c = polys_records (drop (n - i) (drop i c.P))

p_in_parts : (i n : ℕ) (c : Stored) → polys_records c.P ≡ front_p i c ++ (back_p i n c ++ new_p i n c)
p_in_parts i n c =
    let rest : List (List Packed) = drop i c.P in
    let parted : polys_records rest ≡ back_p i n c ++ new_p i n c =
    ap polys_records (sym (take-append-drop (n - i) rest)) ∙ polys_records_append (take (n - i) rest) (drop (n - i) rest) in
    ap polys_records (sym (take-append-drop i c.P)) ∙ polys_records_append (take i c.P) rest ∙ ap (λ (l : List Rec). front_p i c ++ l) parted

-- The records of the branch that is built.
kept_records : (i n under : ℕ) (f initial : List Packed) (c : Stored) (r : Rec)
    → r ≡ record_of (length (kept_open i n f initial c).P) (length (kept_open i n f initial c).Q) (length c.T) under
    → (r ∷ []) ++ front_p i c ++ poly_records f ++ back_p i n c ++ polys_records c.Q ++ poly_records initial ++ polys_records c.T
    ≡ branch_records under (kept_open i n f initial c)
unfolding polys_records
kept_records i n under f initial c r e =
    let in_p : polys_records (take i c.P ++ (f ∷ take (n - i) (drop i c.P))) ≡ front_p i c ++ (poly_records f ++ back_p i n c) =
    polys_records_append (take i c.P) (f ∷ take (n - i) (drop i c.P)) in
    let inQ : polys_records (c.Q ++ (initial ∷ [])) ≡ polys_records c.Q ++ poly_records initial = polys_records_snoc c.Q initial in
    simp append_assoc (sym ((λ t. sym e t ∷ (in_p t ++ (inQ t ++ polys_records c.T))) ∙ simp append_assoc))

length_seven : (a b c d e f g : List Rec)
    → length (a ++ b ++ c ++ d ++ e ++ f ++ g) ≡ length a + length b + length c + length d + length e + length f + length g
length_seven a b c d e f g = simp length-append

length_kept : (i n under : ℕ) (f initial : List Packed) (c : Stored)
    → length (branch_records under (kept_open i n f initial c))
    ≡ 1 + length (front_p i c) + (length f + 1) + length (back_p i n c) + length (polys_records c.Q) + (length initial + 1)
    + length (polys_records c.T)
length_kept i n under f initial c =
    let new : Stored = kept_open i n f initial c in
    let r : Rec = record_of (length new.P) (length new.Q) (length c.T) under in
    let parts = length_seven (r ∷ []) (front_p i c) (poly_records f) (back_p i n c) (polys_records c.Q) (poly_records initial) (polys_records c.T) in
    ap length (sym (kept_records i n under f initial c r refl)) ∙ omega (arith, parts, length_poly_records f, length_poly_records initial)

-- ── where the parts lie ──
-- Where the first i members of P end, then those up to the n-th, then all of P, then Q.
abbrev pub end_front : ℕ → Stored → List Stored → ℕ
end_front i c bs = at_of bs + 1 + length (front_p i c)

abbrev pub end_back : ℕ → ℕ → Stored → List Stored → ℕ
end_back i n c bs = end_front i c bs + length (back_p i n c)

abbrev pub end_p : ℕ → ℕ → Stored → List Stored → ℕ
end_p i n c bs = end_back i n c bs + length (new_p i n c)

abbrev pub end_q : ℕ → ℕ → Stored → List Stored → ℕ
end_q i n c bs = end_p i n c bs + length (polys_records c.Q)

-- The numbers that the code reads, with so many free records.
pub record Placed (c : Stored) (bs : List Stored) (i n free at end top q t front back from_q from_t : ℕ) : Type 0 where
  pub at_is : at ≡ at_of bs
  pub end_is : end ≡ at_of (c ∷ bs)
  pub top_is : top ≡ at_of (c ∷ bs) + free
  pub q_is : q ≡ length c.Q
  pub t_is : t ≡ length c.T
  pub front_is : front ≡ end_front i c bs
  pub back_is : back ≡ end_back i n c bs
  pub from_q_is : from_q ≡ end_p i n c bs
  pub from_t_is : from_t ≡ end_q i n c bs

-- What the code writes: the new branch's own record behind the open one, then its six pieces one behind the other, each up to a record that the code knows,
-- and last the control record. The words of each piece are copied from where they lie, or stored.
pub record Copied (v : List Rec) (n at end top systems q t front back from_q from_t : ℕ) (f initial : List Packed) (v₈ : List Rec) : Type 0 where
  pub v₁ : List Rec
  pub own_put : v₁ ≡ set v end (record_of (n + 1) (q + 1) t at)
  pub a₁ : ℕ
  pub v₂ : List Rec
  pub front_copied : (a₁ ≡ end + 1 + (front - (at + 1))) × (v₂ ≡ moved v₁ (at + 1) (front - (at + 1)) (end + 1))
  pub a₂ : ℕ
  pub v₃ : List Rec
  pub f_put : (a₂ ≡ a₁ + (length f + 1)) × (v₃ ≡ paste v₂ a₁ (poly_records f) (length f + 1))
  pub a₃ : ℕ
  pub v₄ : List Rec
  pub back_copied : (a₃ ≡ a₂ + (back - front)) × (v₄ ≡ moved v₃ front (back - front) a₂)
  pub a₄ : ℕ
  pub v₅ : List Rec
  pub q_copied : (a₄ ≡ a₃ + (from_t - from_q)) × (v₅ ≡ moved v₄ from_q (from_t - from_q) a₃)
  pub a₅ : ℕ
  pub v₆ : List Rec
  pub initial_put : (a₅ ≡ a₄ + (length initial + 1)) × (v₆ ≡ paste v₅ a₄ (poly_records initial) (length initial + 1))
  pub a₆ : ℕ
  pub v₇ : List Rec
  pub t_copied : (a₆ ≡ a₅ + (end - from_t)) × (v₇ ≡ moved v₆ from_t (end - from_t) a₅)
  pub control_put : v₈ ≡ set v₇ 0 (record_of end a₆ top systems)

-- They lie in this order, in a work area with so many records, and there are few members.
pub record Ordered (n at end top q front back from_q from_t room : ℕ) : Type 0 where
  pub front_of : at + 1 ≤ front
  pub back_of : front ≤ back
  pub q_of : back ≤ from_q
  pub T_of : from_q ≤ from_t
  pub end_of : from_t ≤ end
  pub top_of : end ≤ top
  pub room_of : top ≤ room
  pub most_of : top ≤ 65536
  pub few_p : n + (at + 1) ≤ back
  pub few_q : q + from_q ≤ from_t

module _ {v : List Rec} {most : ℕ} {c : Stored} {bs ss : List Stored} (H : Held v most (with_open c bs ss)) (i n : ℕ) (h : (i ≤ n) × (n ≤ length c.P)) where
  -- The control record, and all records in use.
  abbrev ctl : Rec
  ctl = record_of (at_of bs) (at_of (c ∷ bs)) (at_of (c ∷ bs) + length H.free) (length ss)

  abbrev used : List Rec
  used = ctl ∷ (stack (c ∷ bs)).0

  -- Those before P; those behind its front, and behind its back.
  abbrev to_p : List Rec
  to_p = (ctl ∷ (stack bs).0) ++ (own_of c bs ∷ [])

  abbrev q_t : List Rec
  q_t = polys_records c.Q ++ polys_records c.T

  abbrev behind_back : List Rec
  behind_back = new_p i n c ++ q_t

  abbrev behind_front : List Rec
  behind_front = back_p i n c ++ behind_back

  in_order : used ≡ to_p ++ (front_p i c ++ behind_front)
  in_order = ap (λ (l : List Rec). ctl ∷ ((stack bs).0 ++ (own_of c bs ∷ (l ++ q_t)))) (p_in_parts i n c) ∙ simp append_assoc

  length_to_p : length to_p ≡ at_of bs + 1
  length_to_p = omega (arith, length-append (ctl ∷ (stack bs).0) (own_of c bs ∷ []))

  whole : v ≡ used ++ (H.free ++ (systems_records ss ++ H.beyond))
  whole = H.is

  length_front : length (take i c.P) ≡ i
  length_front = length-take-le i c.P (omega arith)

  length_back : length (take (n - i) (drop i c.P)) ≡ n - i
  length_back = length-take-le (n - i) (drop i c.P) (omega (arith, length-drop i c.P))

  skipped : (A post : List Rec) (fs : List (List Packed)) (x k : ℕ) → used ≡ A ++ (polys_records fs ++ post) → length A ≡ x → length fs ≡ k
      → skip_to v x k ≡ x + length (polys_records fs)
  skipped A post fs x k e l lk =
      let rest : List Rec = H.free ++ (systems_records ss ++ H.beyond) in
      ap (skip_to v x) (sym lk)
      ∙ skip_to_polys_records v A x fs (post ++ rest) l (whole ∙ ap (λ (u : List Rec). u ++ rest) e ∙ simp append_assoc)

  to_back : {x : ℕ} → x ≡ end_front i c bs → skip_to v x (n - i) ≡ end_back i n c bs
  to_back {x} e =
      skipped (to_p ++ front_p i c) behind_back (take (n - i) (drop i c.P)) x (n - i)
      (in_order ∙ sym (append_assoc to_p (front_p i c) behind_front))
      (omega (arith, length_to_p, length-append to_p (front_p i c))) length_back
      ∙ ap (λ (y : ℕ). y + length (back_p i n c)) e

  to_q : {x p : ℕ} → p ≡ length c.P → x ≡ end_back i n c bs → skip_to v x (p - n) ≡ end_p i n c bs
  to_q {x} {p} ep e =
      skipped (to_p ++ front_p i c ++ back_p i n c) (polys_records c.Q ++ polys_records c.T) (drop (n - i) (drop i c.P)) x (p - n)
      (in_order ∙ sym (append_assoc (to_p ++ front_p i c) (back_p i n c) behind_back ∙ append_assoc to_p (front_p i c) behind_front))
      (omega (arith, length_to_p, length-append to_p (front_p i c), length-append (to_p ++ front_p i c) (back_p i n c)))
      (omega (arith, length-drop i c.P, length-drop (n - i) (drop i c.P)))
      ∙ ap (λ (y : ℕ). y + length (new_p i n c)) e

  abbrev to_new : List Rec
  to_new = to_p ++ front_p i c ++ back_p i n c ++ new_p i n c

  length_to_new : length to_new ≡ at_of bs + 1 + length (front_p i c) + length (back_p i n c) + length (new_p i n c)
  length_to_new =
      let up_to_back : List Rec = to_p ++ front_p i c ++ back_p i n c in
      omega (arith, length_to_p, length-append to_p (front_p i c), length-append (to_p ++ front_p i c) (back_p i n c), length-append up_to_back (new_p i n c))

  q_in_order : used ≡ to_new ++ (polys_records c.Q ++ polys_records c.T)
  q_in_order = in_order ∙ regroup to_p (front_p i c) (back_p i n c) (new_p i n c) (polys_records c.Q ++ polys_records c.T)
    where
      regroup : (a b d e f : List Rec) → a ++ (b ++ (d ++ (e ++ f))) ≡ a ++ b ++ d ++ e ++ f
      regroup a b d e f = simp append_assoc

  to_t : {x q : ℕ} → q ≡ length c.Q → x ≡ end_p i n c bs → skip_to v x q ≡ end_q i n c bs
  to_t {x} {q} eq e =
      skipped to_new (polys_records c.T) c.Q x q q_in_order (omega (arith, length_to_new)) (sym eq)
      ∙ ap (λ (y : ℕ). y + length (polys_records c.Q)) e

  -- The same, of what the code skips over, from the open branch's first record on.
  module _ {o : Open} (e : o ≡ open_of c bs) where
    pub front_ends : {front : ℕ} → front ≡ skip_to v o.first i → front ≡ end_front i c bs
    front_ends s = s ∙ skip_p H e i (omega arith)

    pub back_ends : {front back : ℕ} → front ≡ skip_to v o.first i → back ≡ skip_to v front (n - i) → back ≡ end_back i n c bs
    back_ends s₁ s₂ = s₂ ∙ to_back (front_ends s₁)

    pub p_ends : {front back from_q : ℕ} → front ≡ skip_to v o.first i → back ≡ skip_to v front (n - i) → from_q ≡ skip_to v back (o.p - n)
        → from_q ≡ end_p i n c bs
    p_ends s₁ s₂ s₃ = s₃ ∙ to_q (p_is H e) (back_ends s₁ s₂)

    pub q_ends : {front back from_q from_t : ℕ} → front ≡ skip_to v o.first i → back ≡ skip_to v front (n - i) → from_q ≡ skip_to v back (o.p - n)
        → from_t ≡ skip_to v from_q o.q → from_t ≡ end_q i n c bs
    q_ends s₁ s₂ s₃ s₄ = s₄ ∙ to_t (q_is H e) (p_ends s₁ s₂ s₃)

  length_parts : at_of (c ∷ bs) ≡ end_q i n c bs + length (polys_records c.T)
  length_parts =
      omega (arith, ap length q_in_order, length_to_new, length-append to_new q_t, length-append (polys_records c.Q) (polys_records c.T))

  -- All of it lies inside.
  pub all_inside : end_q i n c bs ≤ most
  all_inside = omega (arith, length_parts, H.fits)

  few_members : (n ≤ length (front_p i c) + length (back_p i n c)) × (length c.Q ≤ length (polys_records c.Q))
  few_members =
      let front = length_le_polys_records (take i c.P) in
      let back = length_le_polys_records (take (n - i) (drop i c.P)) in
      (omega (arith, length_front, length_back), length_le_polys_records c.Q)

  members_p : (f : List Packed) → n + 1 ≡ length (take i c.P ++ (f ∷ take (n - i) (drop i c.P)))
  members_p f = omega (arith, length-append (take i c.P) (f ∷ take (n - i) (drop i c.P)), length_front, length_back)

  -- ── what is held then ──
  module _ (f initial : List Packed) {at end top q t front back from_q from_t : ℕ}
      (G : Placed c bs i n (length H.free) at end top q t front back from_q from_t) where
    pub ordered : (room : ℕ) → length v ≡ room → Ordered n at end top q front back from_q from_t room
    ordered room e =
        record {
          front_of = omega (arith, G.at_is, G.front_is);
          back_of = omega (arith, G.front_is, G.back_is);
          q_of = omega (arith, G.back_is, G.from_q_is);
          T_of = omega (arith, G.from_q_is, G.from_t_is);
          end_of = omega (arith, G.end_is, G.from_t_is, length_parts);
          top_of = omega (arith, G.end_is, G.top_is);
          room_of = omega (arith, most_inside H, H.fits, G.top_is);
          most_of = omega (arith, H.fits, H.few, G.top_is);
          few_p = omega (arith, few_members, G.at_is, G.back_is);
          few_q = omega (arith, few_members, G.q_is, G.from_q_is, G.from_t_is);
        }

    abbrev needed : ℕ
    needed = 1 + (back - (at + 1)) + (length f + 1) + (from_t - from_q) + (length initial + 1) + (end - from_t)

    length_needed : length (branch_records (at_of bs) (kept_open i n f initial c)) ≡ needed
    length_needed = omega (arith, length_kept i n (at_of bs) f initial c, G, length_parts)

    size_kept : size (with_open (kept_open i n f initial c) (c ∷ bs) ss) ≡ at_of (c ∷ bs) + needed + length (systems_records ss)
    unfolding size
    size_kept = omega (arith, length_needed, length-append (stack (c ∷ bs)).0 (branch_records (at_of bs) (kept_open i n f initial c)))

    members_q : q + 1 ≡ length (c.Q ++ (initial ∷ []))
    members_q = omega (arith, length-append c.Q (initial ∷ []), G.q_is)

    pub no_room : top - end < needed → Leaves most (with_open c bs ss) (with_open (kept_open i n f initial c) (c ∷ bs) ss) (Err Room) v
    no_room less = leaves_none H (omega (arith, size_kept, H.fits, G))

    length_used : length used ≡ end
    length_used = omega (arith, G.end_is)

    record_put : end < length v → (r : Rec) (v₁ : List Rec) → v₁ ≡ set v end r
        → v₁ ≡ used ++ ((r ∷ []) ++ drop 1 (H.free ++ (systems_records ss ++ H.beyond)))
    record_put room r v₁ e₁ =
        let after : List Rec = H.free ++ (systems_records ss ++ H.beyond) in
        let next : suc end ≡ length used + 1 = omega (arith, length_used) in
        e₁ ∙ set_split v end r room
        ∙ (λ j. (ap (take end) whole ∙ take_at used after end length_used) j ++ (r ∷ ((λ x. drop (next x) (whole x)) ∙ drop-append-add used after 1) j))

    -- Where the pieces that are copied lie.
    first_block : (used ≡ to_p ++ (front_p i c ++ behind_front)) × (length to_p ≡ at + 1) × (length (front_p i c) ≡ front - (at + 1))
    first_block = (in_order, omega (arith, length_to_p, G.at_is), omega (arith, G.at_is, G.front_is))

    second_block : (used ≡ to_p ++ front_p i c ++ behind_front) × (length (to_p ++ front_p i c) ≡ front) × (length (back_p i n c) ≡ back - front)
    second_block = (
      in_order ∙ sym (append_assoc to_p (front_p i c) behind_front),
      omega (arith, length_to_p, length-append to_p (front_p i c), G.front_is),
      omega (arith, G.front_is, G.back_is),
    )

    q_block : (used ≡ to_new ++ (polys_records c.Q ++ polys_records c.T)) × (length to_new ≡ from_q) × (length (polys_records c.Q) ≡ from_t - from_q)
    q_block = (q_in_order, omega (arith, length_to_new, G.from_q_is), omega (arith, G.from_q_is, G.from_t_is))

    t_block : (used ≡ to_new ++ polys_records c.Q ++ (polys_records c.T ++ [])) × (length (to_new ++ polys_records c.Q) ≡ from_t)
        × (length (polys_records c.T) ≡ end - from_t)
    t_block = (
      q_in_order ∙ last_part to_new (polys_records c.Q) (polys_records c.T),
      omega (arith, length-append to_new (polys_records c.Q), length_to_new, G.from_t_is),
      omega (arith, G.end_is, G.from_t_is, length_parts),
    )

    abbrev pieces : ℕ
    pieces = 1 + (front - (at + 1)) + (length f + 1) + (back - front) + (from_t - from_q) + (length initial + 1) + (end - from_t)

    pieces_needed : pieces ≡ needed
    pieces_needed = let a : (front - (at + 1)) + (back - front) ≡ back - (at + 1) = omega (arith, G.at_is, G.front_is, G.back_is) in omega arith

    fits_in : needed ≤ top - end → pieces ≤ length H.free
    fits_in room = let a : top - end ≡ length H.free = omega (arith, G.end_is, G.top_is) in omega (arith, pieces_needed)

    end_kept : end + pieces ≡ at_of (kept_open i n f initial c ∷ (c ∷ bs))
    end_kept =
        omega (arith, pieces_needed, length_needed, length-append (stack (c ∷ bs)).0 (branch_records (at_of bs) (kept_open i n f initial c)), G.end_is)

    top_kept : needed ≤ top - end → top ≡ at_of (kept_open i n f initial c ∷ (c ∷ bs)) + length (drop pieces H.free)
    top_kept room =
        top_left pieces end (at_of (kept_open i n f initial c ∷ (c ∷ bs))) top H.free end_kept (fits_in room)
        (G.top_is ∙ ap (λ (x : ℕ). x + length H.free) (sym G.end_is))

    end_inside : needed ≤ top - end → end < length v
    end_inside room = let fits = fits_in room in omega (arith, most_inside H, H.fits, G.end_is)

    storable_kept : Storable f → Storable initial → Each StorableBranch (kept_open i n f initial c ∷ (c ∷ bs))
    storable_kept sf si =
        let h = H.storable.0.0 in
        let back = each_take Storable (n - i) (drop i c.P) (each_drop Storable i c.P h.0) in (
          (
            (each_append Storable (take i c.P) (f ∷ take (n - i) (drop i c.P))).1 (each_take Storable i c.P h.0, (sf, back)),
            (each_append Storable c.Q (initial ∷ [])).1 (h.1, (si, tt)),
            h.2,
          ),
          H.storable.0,
        )

    pub kept : needed ≤ top - end → Storable f → Storable initial → {systems : ℕ} → systems ≡ length ss → {v₈ : List Rec}
        → Copied v n at end top systems q t front back from_q from_t f initial v₈
        → Leaves most (with_open c bs ss) (with_open (kept_open i n f initial c) (c ∷ bs) ss) (Ok tt) v₈
    kept room sf si systems K =
        let behind : List Rec = systems_records ss ++ H.beyond in
        let after : List Rec = H.free ++ behind in
        let R1 : List Rec = front_p i c in
        let R2 : List Rec = back_p i n c in
        let RQ : List Rec = polys_records c.Q in
        let RT : List Rec = polys_records c.T in
        let new : Stored = kept_open i n f initial c in
        let r : Rec = record_of (n + 1) (q + 1) t at in
        let g₀ : Grown used after (r ∷ []) 1 K.v₁ (end + 1) =
        record { is = record_put (end_inside room) r K.v₁ K.own_put; over = refl; up_to = omega (arith, length_used) } in
        let g₁ = grow_copied g₀ to_p R1 (R2 ++ (new_p i n c ++ (RQ ++ RT))) first_block K.front_copied in
        let g₂ = grow_stored g₁ (poly_records f) (length_poly_records f) K.f_put in
        let g₃ = grow_copied g₂ (to_p ++ R1) R2 (new_p i n c ++ (RQ ++ RT)) second_block K.back_copied in
        let g₄ = grow_copied g₃ to_new RQ RT q_block K.q_copied in
        let g₅ = grow_stored g₄ (poly_records initial) (length_poly_records initial) K.initial_put in
        let g₆ = grow_copied g₅ (to_new ++ RQ) RT [] t_block K.t_copied in
        let built : (r ∷ []) ++ R1 ++ poly_records f ++ R2 ++ RQ ++ poly_records initial ++ RT ≡ branch_records (at_of bs) new =
        kept_records i n (at_of bs) f initial c r (λ j. record_of (members_p f j) (members_q j) (G.t_is j) (G.at_is j)) in
        let free' : List Rec = drop pieces H.free in
        let shrunk : drop pieces after ≡ free' ++ behind = drop-append-le pieces H.free behind (fits_in room) in
        let new-end : K.a₆ ≡ at_of (new ∷ (c ∷ bs)) = g₆.up_to ∙ ap (λ (x : ℕ). x + pieces) length_used ∙ end_kept in
        let new_top : top ≡ at_of (new ∷ (c ∷ bs)) + length free' = top_kept room in
        let new_ctl : Rec = record_of (at_of (c ∷ bs)) (at_of (new ∷ (c ∷ bs))) (at_of (new ∷ (c ∷ bs)) + length free') (length ss) in
        leaves_held
        (record {
          free = free';
          beyond = H.beyond;
          is =
              K.control_put ∙ (λ j. set (g₆.is j) 0 (record_of (G.end_is j) (new-end j) (new_top j) (systems j)))
              ∙ (λ j. new_ctl ∷ ((stack (c ∷ bs)).0 ++ (built j ++ shrunk j)))
              ∙ ap (λ (u : List Rec). new_ctl ∷ u) (sym (append_assoc (stack (c ∷ bs)).0 (branch_records (at_of bs) new) (free' ++ behind)));
          fits = ap (λ (x : ℕ). x + length (systems_records ss)) (sym new_top ∙ G.top_is) ∙ H.fits;
          few = H.few;
          storable = (storable_kept sf si, H.storable.1);
        })

-- The numbers that the code reads lie so.
pub placed : (w : List (List ℕ)) {c : Stored} {bs ss : List Stored} (H : HeldIn w (with_open c bs ss)) (i n : ℕ) → (i ≤ n) × (n ≤ length c.P)
    → {front back from_q from_t : ℕ} → front ≡ skip_to (view w) (ctl_word w 0 + 1) i → back ≡ skip_to (view w) front (n - i)
    → from_q ≡ skip_to (view w) back (own_word w 0 - n) → from_t ≡ skip_to (view w) from_q (own_word w 1)
    → Placed c bs i n (length H.free) (ctl_word w 0) (ctl_word w 1) (ctl_word w 2) (own_word w 1) (own_word w 2) front back from_q from_t
placed w {c} {bs} H i n h s₁ s₂ s₃ s₄ =
    let e = open_row w H in
    record {
      at_is = start_row w H;
      end_is = end_row w H ∙ sym (end_is c bs);
      top_is = omega (arith, top_row w H, end_is c bs);
      q_is = q_is H e;
      t_is = t_is H e;
      front_is = front_ends H i n h e s₁;
      back_is = back_ends H i n h e s₁ s₂;
      from_q_is = p_ends H i n h e s₁ s₂ s₃;
      from_t_is = q_ends H i n h e s₁ s₂ s₃ s₄;
    }
