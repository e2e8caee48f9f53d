-- What is held once the open branch is dropped or listed, and at the beginning of a run.
use mathlib.Core.Path.{◌≡◌, sym, ap, ◌∙◌}
use mathlib.Core.List.{List, [], ◌∷◌, ◌++◌, append_assoc}
use Prim.Native.Nat.{ℕ, ◌+◌, ◌-◌, ◌≤◌, ◌<◌}
use native.Mathlib.Omega.{arith}
use lib.ListN.{length, take, drop, set, length-append}
use Rattle.std.proofs.lemmas.List.{take-append-drop}
use lib.Seq.{set_at, take_at, drop_at, take-append-le, take-append-add, length-take-le}
use Rattle.std.specs.List.{copy_within}
use Rattle.records.specs.Records.{Rec, record_of, view, moved}
use Rattle.records.proofs.Rows.{length_view, view_set, view_copied}
use Rattle.stored.specs.Stored.{polys_records}
use Rattle.branches.specs.Area.{Stored, Held, HeldIn, Opened, stack, branch_records, systems_records, with_open, empty, used, beyond}
use Rattle.branches.proofs.AreaLaws.{at_of, own_of, end_of, end_is}
use Rattle.branches.proofs.BeyondLaws.{set_beyond, moved_beyond}
use Rattle.branches.proofs.RowLaws.{ctl_word, own_word, control_row, own_row, start_row, end_row, top_row, systems_row, rows_inside}

-- A system takes a record or more.
length_le_systems_records : (ss : List Stored) → length ss ≤ length (systems_records ss)
unfolding systems_records
length_le_systems_records [] = omega arith
length_le_systems_records (s ∷ ss) = omega (arith, length-append (branch_records 0 s) (systems_records ss), length_le_systems_records ss)

module _ {v : List Rec} {most : ℕ} {b : Stored} {bs ss : List Stored} (H : Held v most (with_open b bs ss)) where
  behind : List Rec
  behind = systems_records ss ++ H.beyond

  abbrev ctl : Rec
  ctl = record_of (at_of bs) (at_of (b ∷ bs)) (at_of (b ∷ bs) + length H.free) (length ss)

  in_parts : v ≡ (ctl ∷ (stack bs).0) ++ (branch_records (stack bs).1 b ++ (H.free ++ behind))
  unfolding behind
  in_parts = H.is ∙ simp append_assoc

  length_open : end_of b bs ≡ at_of bs + length (branch_records (stack bs).1 b)
  length_open = omega (arith, end_is b bs, length-append (stack bs).0 (branch_records (stack bs).1 b))

  few_systems : length ss < 65536
  few_systems = omega (arith, length_le_systems_records ss, H.fits, H.few)

  moved_up : (v₁ v₂ v₃ : List Rec) (at n to p q t x k : ℕ) → at ≡ at_of bs → at + n ≡ end_of b bs → to + n ≡ end_of b bs + length H.free
      → p ≡ length b.P → q ≡ length b.Q → t ≡ length b.T → x ≡ (stack bs).1 → k ≡ length ss + 1
      → v₁ ≡ moved v at n to → v₂ ≡ set v₁ to (record_of p q t 0) → v₃ ≡ set v₂ 0 (record_of x at to k)
      → Held v₃ most (record { branches = bs; systems = b ∷ ss })
  unfolding behind systems_records
  moved_up v₁ v₂ v₃ at n to p q t x k eat en eto ep eq et ex ek e₁ e₂ e₃ =
      let B : List Rec = branch_records (stack bs).1 b in
      let rest : List Rec = polys_records b.P ++ (polys_records b.Q ++ polys_records b.T) in
      let pre : List Rec = ctl ∷ (stack bs).0 in
      let big : List Rec = B ++ H.free in
      let free' : List Rec = take (to - at) big in
      let lB : length B ≡ n = omega (arith, length_open) in
      let lbig : length big ≡ length B + length H.free = length-append B H.free in
      let e' : v ≡ pre ++ (big ++ behind) = in_parts ∙ simp append_assoc in
      let nto : to ≡ length pre + (to - at) = omega arith in
      let cut : take to v ≡ pre ++ free' =
      (λ i. take (nto i) (e' i)) ∙ take-append-add pre (big ++ behind) (to - at)
      ∙ ap (λ (u : List Rec). pre ++ u) (take-append-le (to - at) big behind (omega arith)) in
      let mid : take n (drop at v) ≡ B =
      ap (take n) (ap (drop at) in_parts ∙ drop_at pre (B ++ (H.free ++ behind)) at (omega arith)) ∙ take_at B (H.free ++ behind) n lB in
      let back : drop (to + n) v ≡ behind =
      ap (drop (to + n)) (e' ∙ sym (append_assoc pre big behind)) ∙ drop_at (pre ++ big) behind (to + n) (omega (arith, length-append pre big)) in
      let lf : length free' ≡ to - at = length-take-le (to - at) big (omega arith) in
      let i₁ : v₁ ≡ pre ++ free' ++ (own_of b bs ∷ (rest ++ behind)) =
      e₁ ∙ (λ i. cut i ++ mid i ++ back i) ∙ append_assoc (pre ++ free') (own_of b bs ∷ rest) behind in
      let i₂ : v₂ ≡ pre ++ free' ++ (record_of p q t 0 ∷ (rest ++ behind)) =
      e₂ ∙ ap (λ (u : List Rec). set u to (record_of p q t 0)) i₁
      ∙ set_at (pre ++ free') (own_of b bs) (rest ++ behind) (record_of p q t 0) to (omega (arith, length-append pre free')) in
      let top : to ≡ at_of bs + length free' = omega arith in
      let more : k ≡ length (b ∷ ss) = omega arith in
      let ctl' : Rec = record_of (stack bs).1 (at_of bs) (at_of bs + length free') (length (b ∷ ss)) in
      record {
        free = free';
        beyond = H.beyond;
        is = e₃ ∙ (λ i. set (i₂ i) 0 (record_of (ex i) (eat i) (top i) (more i)))
            ∙ (λ i. ctl' ∷ ((stack bs).0 ++ free' ++ (record_of (ep i) (eq i) (et i) 0 ∷ (rest ++ behind)))) ∙ simp append_assoc;
        fits = omega (arith, H.fits, end_is b bs, length-append (branch_records 0 b) (systems_records ss));
        few = H.few;
        storable = (H.storable.0.1, (H.storable.0.0, H.storable.1));
      }

module _ (w : List (List ℕ)) {b : Stored} {bs ss : List Stored} (H : HeldIn w (with_open b bs ss)) where
  pub dropped : Held (view (set w 0 (own_word w 3 ∷ ctl_word w 0 ∷ ctl_word w 2 ∷ ctl_word w 3 ∷ []))) (used w) (record { branches = bs; systems = ss })
  unfolding behind
  dropped =
      let B : List Rec = branch_records (stack bs).1 b in
      let len : length (B ++ H.free) ≡ length B + length H.free = length-append B H.free in
      let top : end_of b bs + length H.free ≡ at_of bs + length (B ++ H.free) = omega (arith, length_open H) in
      record {
        free = B ++ H.free;
        beyond = H.beyond;
        is = view_set w 0 _ _ _ _
            ∙ (λ t. set (in_parts H t) 0 (record_of (own_row w H t).w3 (control_row w H t).w0 (control_row w H t).w2 (control_row w H t).w3))
            ∙ (λ t. record_of (stack bs).1 (at_of bs) (top t) (length ss) ∷ ((stack bs).0 ++ (B ++ (H.free ++ behind H)))) ∙ simp append_assoc;
        fits = omega (arith, H.fits, length_open H, end_is b bs);
        few = H.few;
        storable = (H.storable.0.1, H.storable.1);
      }

  -- The branch's records copied up to the end of the free ones, and its own record made a system's.
  pub listed : (w₁ : List (List ℕ)) (to : ℕ) → to ≡ ctl_word w 2 - (ctl_word w 1 - ctl_word w 0) → w₁ ≡ copy_within w (ctl_word w 0) (ctl_word w 1) to
      → Held (view (set (set w₁ to (own_word w 0 ∷ own_word w 1 ∷ own_word w 2 ∷ 0 ∷ [])) 0 (own_word w 3 ∷ ctl_word w 0 ∷ to ∷ (ctl_word w 3 + 1) ∷ []))) (used w)
      (record { branches = bs; systems = b ∷ ss })
  listed w₁ to is e =
      let own = own_row w H in
      let h = rows_inside w H in
      let ends = end_row w H in
      moved_up H (view w₁) _ _ (ctl_word w 0) (ctl_word w 1 - ctl_word w 0) to _ _ _ _ _ (start_row w H) (omega arith) (omega (arith, top_row w H))
      (ap (λ (r : Rec). r.w0) own) (ap (λ (r : Rec). r.w1) own) (ap (λ (r : Rec). r.w2) own) (ap (λ (r : Rec). r.w3) own)
      (ap (λ (n : ℕ). n + 1) (systems_row w H)) (ap view e ∙ view_copied w (ctl_word w 0) (ctl_word w 1) to) (view_set w₁ to _ _ _ _) (view_set _ 0 _ _ _ _)

-- One system more can be counted.
pub counted : (w : List (List ℕ)) → Opened w → ctl_word w 3 + 1 < 4294967296
counted w o = omega (arith, systems_row w o.3, few_systems o.3)

-- An empty first branch.
pub begun : (w : List (List ℕ)) → 2 ≤ length w
    → Held (view (set (set w 0 (1 ∷ 2 ∷ used w ∷ 0 ∷ [])) 1 (0 ∷ 0 ∷ 0 ∷ 0 ∷ []))) (used w) (with_open empty [] [])
unfolding systems_records polys_records
begun [] h = absurd (omega arith)
begun (r ∷ []) h = absurd (omega arith)
begun (r ∷ (s ∷ w)) h =
    let most : ℕ = used (r ∷ (s ∷ w)) in
    let n = length_view w in
    let lf : length (take (most - 2) (view w)) ≡ most - 2 = length-take-le (most - 2) (view w) (omega arith) in
    let top : most ≡ 2 + length (take (most - 2) (view w)) = omega arith in
    record {
      free = take (most - 2) (view w);
      beyond = drop (most - 2) (view w);
      is = λ i. record_of 1 2 (top i) 0 ∷ (record_of 0 0 0 0 ∷ sym (take-append-drop (most - 2) (view w)) i);
      fits = omega arith;
      few = omega arith;
      storable = (((tt, tt, tt), tt), tt);
    }

-- ── the records beyond ──
-- One record is written, before them.
pub set_stays : (w : List (List ℕ)) (i a b c d : ℕ) → i < 65536 → beyond (set w i (a ∷ b ∷ c ∷ d ∷ [])) ≡ beyond w
set_stays w i a b c d h = set_beyond (view w) (view (set w i (a ∷ b ∷ c ∷ d ∷ []))) i (record_of a b c d) (view_set w i a b c d) h

-- Two are written.
pub begun_stays : (w : List (List ℕ)) (most : ℕ) → beyond (set (set w 0 (1 ∷ 2 ∷ most ∷ 0 ∷ [])) 1 (0 ∷ 0 ∷ 0 ∷ 0 ∷ [])) ≡ beyond w
begun_stays w most = set_stays (set w 0 (1 ∷ 2 ∷ most ∷ 0 ∷ [])) 1 0 0 0 0 (omega arith) ∙ set_stays w 0 1 2 most 0 (omega arith)

-- The branch's records are copied up, and two are written.
pub listed_stays : (w : List (List ℕ)) → Opened w → (w₁ : List (List ℕ)) (to : ℕ) → to ≡ ctl_word w 2 - (ctl_word w 1 - ctl_word w 0) → w₁ ≡ copy_within w (ctl_word w 0) (ctl_word w 1) to
    → beyond (set (set w₁ to (own_word w 0 ∷ own_word w 1 ∷ own_word w 2 ∷ 0 ∷ [])) 0 (own_word w 3 ∷ ctl_word w 0 ∷ to ∷ (ctl_word w 3 + 1) ∷ [])) ≡ beyond w
listed_stays w o w₁ to is e =
    let h = rows_inside w o.3 in
    let first : List (List ℕ) = set w₁ to (own_word w 0 ∷ own_word w 1 ∷ own_word w 2 ∷ 0 ∷ []) in
    set_stays first 0 (own_word w 3) (ctl_word w 0) to (ctl_word w 3 + 1) (omega arith)
    ∙ set_stays w₁ to (own_word w 0) (own_word w 1) (own_word w 2) 0 (omega (arith, h))
    ∙ moved_beyond (view w) (view w₁) (ctl_word w 0) (ctl_word w 1 - ctl_word w 0) to (ap view e ∙ view_copied w (ctl_word w 0) (ctl_word w 1) to) (omega (arith, h))
    (omega (arith, h, length_view w)) (omega (arith, h))
