-- What is left when a polynomial is put in or taken out and the branch's counts and its end are written: the records hold the state with the branch so changed.
use mathlib.Core.Path.{◌≡◌, sym, ap, ◌∙◌, subst}
use mathlib.Core.List.{List, [], ◌∷◌, ◌++◌}
use Prim.Native.Nat.{ℕ, ◌+◌, ◌-◌, ◌≤◌, ◌<◌}
use native.Mathlib.Omega.{arith}
use mir.Syntax.{w32}
use mir.Val.{Fits}
use lib.ListN.{length, drop, get_or, set, length-drop}
use Rattle.std.specs.Prelude.{Err}
use Rattle.tables.specs.declared.Reason.TheVariants.{Room}
use Rattle.residues.specs.Each.{Each}
use Rattle.residues.specs.laws.Each.{each_append}
use Rattle.records.specs.Records.{Rec, record_of, zero_record, record_at, view}
use Rattle.records.proofs.Rows.{length_view, view_at, view_set}
use Rattle.stored.specs.Stored.{poly_records, size_at, inserted, removed, Storable}
use Rattle.stored.specs.laws.Stored.{length_poly_records, length_le_polys_records}
use Rattle.branches.specs.declared.Open.{Open}
use Rattle.branches.specs.Open.{open_of}
use Rattle.branches.specs.Area.{Stored, Held, Leaves, size, with_open, stack, systems_records, StorableBranch, used, beyond}
use Rattle.branches.proofs.AreaLaws.{Lies, lies, place, place_add, place_one, own_is, first_is, size_of, own_set, first_set, put_in, take_out}
use Rattle.branches.proofs.AreaLaws.{freed, length_freed, all, at_of, end_of, end_is, own_of, control, room_is, held_again}
use Rattle.branches.proofs.BeyondLaws.{set_stays, inserted_stays, removed_stays}
use Rattle.branches.proofs.OpenLaws.{p_is, q_is, t_is}
use Rattle.branches.proofs.LeavesLaws.{size_free, leaves_none}
use Rattle.branches.proofs.RowLaws.{ctl_word, own_word, end_row, top_row}
use Rattle.places.specs.Places.{More, Counts, PutAt, TakeAt, SomeOpen, resized}
use Rattle.polynomials.specs.declared.Term.{Term as Packed}

-- ── both records written anew ──
-- The words that stay are read before.
pub rewritten : (w : List (List ℕ)) (end p q t : ℕ)
    → view (set (set w (ctl_word w 0) (p ∷ q ∷ t ∷ own_word w 3 ∷ [])) 0 (ctl_word w 0 ∷ end ∷ ctl_word w 2 ∷ ctl_word w 3 ∷ [])) ≡ resized (view w) end p q t
rewritten w end p q t =
    let first : record_at (get_or w 0 []) ≡ get_or (view w) 0 zero_record = sym (view_at w 0) in
    let own : record_at (get_or w (ctl_word w 0) []) ≡ get_or (view w) (ctl_word w 0) zero_record = sym (view_at w (ctl_word w 0)) in
    view_set _ 0 _ _ _ _ ∙ ap (λ (v : List Rec). set v 0 (record_of (ctl_word w 0) end (ctl_word w 2) (ctl_word w 3))) (view_set w (ctl_word w 0) _ _ _ _)
    ∙ ap (λ (o : Rec). set (set (view w) (ctl_word w 0) (record_of p q t o.w3)) 0 (record_of (ctl_word w 0) end (ctl_word w 2) (ctl_word w 3))) own
    ∙ ap (λ (c : Rec). set (set (view w) c.w0 (record_of p q t (get_or (view w) c.w0 zero_record).w3)) 0 (record_of c.w0 end c.w2 c.w3)) first

resized_stays : (v : List Rec) (end p q t : ℕ) → (get_or v 0 zero_record).w0 < 65536 → drop 65536 (resized v end p q t) ≡ drop 65536 v
resized_stays v end p q t h =
    let first : Rec = get_or v 0 zero_record in
    let own : Rec = record_of p q t (get_or v first.w0 zero_record).w3 in
    set_stays (set v first.w0 own) 0 (record_of first.w0 end first.w2 first.w3) (omega arith) ∙ set_stays v first.w0 own h

-- ── the polynomials of a branch ──
storable_all : (b : Stored) → StorableBranch b → Each Storable (all b)
storable_all b h = (each_append Storable b.P (b.Q ++ b.T)).1 (h.0, (each_append Storable b.Q b.T).1 (h.1, h.2))

storable_parts : (b : Stored) → Each Storable (all b) → StorableBranch b
storable_parts b h =
    let p = (each_append Storable b.P (b.Q ++ b.T)).0 h in
    let q = (each_append Storable b.Q b.T).0 p.1 in
    (p.0, q.0, q.1)

-- ── a polynomial more ──
module _ {b c : Stored} {xs : List (List Packed)} {f : List Packed} {ys : List (List Packed)} (m : More b c xs f ys) where
  more_ends : (bs : List Stored) → end_of c bs ≡ end_of b bs + (length f + 1)
  more_ends bs = let at : ℕ = at_of bs in omega (arith, ap (place at) m.less, ap (place at) m.more, place_add at xs ys, place_one at xs f ys)

  pub more_size : (bs ss : List Stored) → size (with_open c bs ss) ≡ size (with_open b bs ss) + (length f + 1)
  unfolding size
  more_size bs ss = omega (arith, end_is b bs, end_is c bs, more_ends bs)

  storable_more : Storable f → StorableBranch b → StorableBranch c
  storable_more k h =
      let s = (each_append Storable xs ys).0 (subst (Each Storable) m.less (storable_all b h)) in
      storable_parts c (subst (Each Storable) (sym m.more) ((each_append Storable xs (f ∷ ys)).1 (s.0, (k, s.1))))

  storable_less : StorableBranch c → StorableBranch b
  storable_less h =
      let s = (each_append Storable xs (f ∷ ys)).0 (subst (Each Storable) m.more (storable_all c h)) in
      storable_parts b (subst (Each Storable) (sym m.less) ((each_append Storable xs ys).1 (s.0, s.1.1)))

module _ {v : List Rec} {most : ℕ} {b : Stored} {bs ss : List Stored} (H : Held v most (with_open b bs ss)) where
  -- One more than a count of the open branch fits a word.
  pub counts_fit : {p q t : ℕ} → Counts p q t b → Fits w32 (p + 1) × Fits w32 (q + 1) × Fits w32 (t + 1)
  counts_fit n =
      let p = length_le_polys_records b.P in
      let q = length_le_polys_records b.Q in
      let t = length_le_polys_records b.T in
      let first = place_add (at_of bs) b.P (b.Q ++ b.T) in
      let second = place_add (at_of bs) b.Q b.T in
      let room = room_is H in
      let few = H.few in
      (omega (arith, n.in_p), omega (arith, n.in_q), omega (arith, n.in_t))

  -- The counts, as the branch's own record says.
  pub counts_are : {o : Open} → o ≡ open_of b bs → Counts o.p o.q o.t b
  counts_are e = record { in_p = p_is H e; in_q = q_is H e; in_t = t_is H e }

  -- The polynomials are fs by now, and neither record is written anew.
  abbrev Changed : List Rec → List (List Packed) → List Rec → Type 0
  Changed v₁ fs free = Lies v₁ (control b bs ss H.free ∷ (stack bs).0) (own_of b bs) fs free (systems_records ss ++ H.beyond) (at_of bs)

  module _ {v₁ : List Rec} {fs : List (List Packed)} {free : List Rec} (L : Changed v₁ fs free) where
    start_inside : (get_or v₁ 0 zero_record).w0 < most
    start_inside = omega (arith, ap (λ (r : Rec). r.w0) (first_is L), room_is H)

    held_resized : {b₁ : Stored} → all b₁ ≡ fs → end_of b₁ bs + length free ≡ end_of b bs + length H.free → StorableBranch b₁
        → {p q t : ℕ} → Counts p q t b₁ → {end : ℕ} → end ≡ end_of b₁ bs → {v₂ : List Rec} → v₂ ≡ resized v₁ end p q t → Held v₂ most (with_open b₁ bs ss)
    held_resized {b₁} s room h {p} {q} {t} n {end} e {v₂} put =
        let fin : List Rec = systems_records ss ++ H.beyond in
        let own : Rec = own_of b₁ bs in
        let own_new : record_of p q t (stack bs).1 ≡ own = λ k. record_of (n.in_p k) (n.in_q k) (n.in_t k) (stack bs).1 in
        let new : record_of (at_of bs) end (end_of b bs + length H.free) (length ss) ≡ control b₁ bs ss free =
        λ k. record_of (at_of bs) (e k) (sym room k) (length ss) in
        let is : v₂ ≡ set (set v₁ (at_of bs) own) 0 (control b₁ bs ss free) =
        put
        ∙ ap (λ (c : Rec). set (set v₁ c.w0 (record_of p q t (get_or v₁ c.w0 zero_record).w3)) 0 (record_of c.w0 end c.w2 c.w3)) (first_is L)
        ∙ ap (λ (o : Rec). set (set v₁ (at_of bs) (record_of p q t o.w3)) 0 (record_of (at_of bs) end (end_of b bs + length H.free) (length ss))) (own_is L)
        ∙ (λ k. set (set v₁ (at_of bs) (own_new k)) 0 (new k)) in
        let L₂ = first_set (own_set L (set v₁ (at_of bs) own) own (λ k. set v₁ (at_of bs) own)) v₂ (control b₁ bs ss free) is in
        held_again H v₂ b₁ free
        (subst (λ (l : List (List Packed)). Lies v₂ (control b₁ bs ss free ∷ (stack bs).0) own l free fin (at_of bs)) (sym s) L₂) room h

-- ── f put in ──
module _ (w : List (List ℕ)) {to : ℕ} {f : List Packed} {p q t : ℕ} {c : Stored} {bs ss : List Stored} (A : PutAt w to f p q t c bs ss) where
  pub no_room : ctl_word w 2 - ctl_word w 1 < length f + 1 → Leaves (used w) (with_open A.b bs ss) (with_open c bs ss) (Err Room) (view w)
  no_room h = leaves_none A.held (omega (arith, more_size A.adds bs ss, size_free A.held, end_row w A.held, top_row w A.held))

  module _ (room : length f + 1 ≤ ctl_word w 2 - ctl_word w 1) where
    fits : length f + 1 ≤ length A.held.free
    fits = omega (arith, room, end_row w A.held, top_row w A.held)

    module _ (w₁ : List (List ℕ)) (put : view w₁ ≡ inserted (view w) to (ctl_word w 1 - to) (poly_records f)) where
      into : Changed A.held (view w₁) (A.xs ++ (f ∷ A.ys)) (drop (length f + 1) A.held.free)
      into =
          put_in (lies A.held) A.xs A.ys A.adds.less f fits (view w₁) (put ∙ (λ k. inserted (view w) (A.there k) (end_row w A.held k - A.there k) (poly_records f)))

      pub held_put : Storable f → (w₂ : List (List ℕ)) → view w₂ ≡ resized (view w₁) (ctl_word w 1 + (length f + 1)) p q t
          → Held (view w₂) (used w) (with_open c bs ss)
      held_put k w₂ e =
          let grown : end_of c bs ≡ end_of A.b bs + (length f + 1) = more_ends A.adds bs in
          held_resized A.held into A.adds.more (omega (arith, fits, length-drop (length f + 1) A.held.free))
          (storable_more A.adds k A.held.storable.0.0) A.counts (omega (arith, end_row w A.held)) e

-- ── f taken out ──
module _ (w : List (List ℕ)) {from p q t : ℕ} {b : Stored} {bs ss : List Stored} (A : TakeAt w from p q t b bs ss) where
  -- The first record of f says how many are behind it.
  whole : get_or (get_or w from []) 0 0 + 1 ≡ length A.f + 1
  whole =
      ap (λ (r : Rec). r.w0 + 1) (sym (view_at w from)) ∙ ap (λ (n : ℕ). size_at (view w) n + 1) A.there
      ∙ ap (λ (n : ℕ). n + 1) (size_of (lies A.held) A.xs A.f A.ys A.takes.more)

  module _ (w₁ : List (List ℕ)) (gone : view w₁ ≡ removed (view w) from (get_or (get_or w from []) 0 0 + 1) (ctl_word w 1 - from - (get_or (get_or w from []) 0 0 + 1))) where
    out : Changed A.held (view w₁) (A.xs ++ A.ys) (freed (lies A.held) (place (at_of bs) (A.xs ++ A.ys)))
    out =
        take_out (lies A.held) A.xs A.f A.ys A.takes.more (view w₁)
        (gone ∙ (λ k. removed (view w) (A.there k) (whole k) (end_row w A.held k - A.there k - whole k)))

    pub held_take : (w₂ : List (List ℕ)) → view w₂ ≡ resized (view w₁) (ctl_word w 1 - (get_or (get_or w from []) 0 0 + 1)) p q t
        → Held (view w₂) (used w) (with_open b bs ss)
    held_take w₂ e =
        let shrunk : end_of A.c bs ≡ end_of b bs + (length A.f + 1) = more_ends A.takes bs in
        held_resized A.held out A.takes.less (omega (arith, length_freed (lies A.held) A.xs A.f A.ys A.takes.more))
        (storable_less A.takes A.held.storable.0.0) A.counts (omega (arith, end_row w A.held, whole)) e

-- ── where some branch is open ──
module _ (w : List (List ℕ)) {to : ℕ} {f : List Packed} {p q t : ℕ} (o : SomeOpen (PutAt w to f p q t)) (room : length f + 1 ≤ ctl_word w 2 - ctl_word w 1) where
  pub put_inside : (to ≤ ctl_word w 1) × (ctl_word w 1 + (length f + 1) ≤ length w)
  put_inside = (
    omega (arith, end_row w o.3.held, o.3.there, ap (place (at_of o.1)) o.3.adds.less, place_add (at_of o.1) o.3.xs o.3.ys),
    omega (arith, end_row w o.3.held, room_is o.3.held, fits w o.3 room),
  )

  pub put_start : (w₁ : List (List ℕ)) → view w₁ ≡ inserted (view w) to (ctl_word w 1 - to) (poly_records f) → (get_or (view w₁) 0 zero_record).w0 < length w
  put_start w₁ e = omega (arith, start_inside o.3.held (into w o.3 room w₁ e))

  pub put_beyond : (w₁ w₂ : List (List ℕ)) (end : ℕ) → view w₁ ≡ inserted (view w) to (ctl_word w 1 - to) (poly_records f) → view w₂ ≡ resized (view w₁) end p q t → beyond w₂ ≡ beyond w
  put_beyond w₁ w₂ end e e₂ =
      let i = put_inside in
      let n = length_view w in
      let first = start_inside o.3.held (into w o.3 room w₁ e) in
      ap (drop 65536) e₂ ∙ resized_stays (view w₁) end p q t (omega (arith, first, o.3.held.few))
      ∙ ap (drop 65536) e
      ∙ inserted_stays (view w) to (ctl_word w 1 - to) (poly_records f) (omega (arith, i, n))
      (omega (arith, i, length_poly_records f, end_row w o.3.held, room_is o.3.held, fits w o.3 room, o.3.held.few))

module _ (w : List (List ℕ)) {from p q t : ℕ} (o : SomeOpen (TakeAt w from p q t)) where
  pub take_first : from < used w
  take_first = omega (arith, o.3.there, ap (place (at_of o.1)) o.3.takes.more, place_one (at_of o.1) o.3.xs o.3.f o.3.ys, room_is o.3.held)

  pub take_inside : (from + (get_or (get_or w from []) 0 0 + 1) ≤ ctl_word w 1) × (ctl_word w 1 ≤ used w)
  take_inside = (
    omega (arith, end_row w o.3.held, o.3.there, whole w o.3, ap (place (at_of o.1)) o.3.takes.more, place_one (at_of o.1) o.3.xs o.3.f o.3.ys),
    omega (arith, end_row w o.3.held, room_is o.3.held),
  )

  pub take_start : (w₁ : List (List ℕ)) → view w₁ ≡ removed (view w) from (get_or (get_or w from []) 0 0 + 1) (ctl_word w 1 - from - (get_or (get_or w from []) 0 0 + 1))
      → (get_or (view w₁) 0 zero_record).w0 < length w
  take_start w₁ e = omega (arith, start_inside o.3.held (out w o.3 w₁ e))

  pub take_beyond : (w₁ w₂ : List (List ℕ)) (end : ℕ) → view w₁ ≡ removed (view w) from (get_or (get_or w from []) 0 0 + 1) (ctl_word w 1 - from - (get_or (get_or w from []) 0 0 + 1))
      → view w₂ ≡ resized (view w₁) end p q t → beyond w₂ ≡ beyond w
  take_beyond w₁ w₂ end e e₂ =
      let n : ℕ = get_or (get_or w from []) 0 0 + 1 in
      let i = take_inside in
      let first = start_inside o.3.held (out w o.3 w₁ e) in
      ap (drop 65536) e₂ ∙ resized_stays (view w₁) end p q t (omega (arith, first, o.3.held.few))
      ∙ ap (drop 65536) e
      ∙ removed_stays (view w) from n (ctl_word w 1 - from - n) (omega (arith, i, length_view w)) (omega (arith, i))
