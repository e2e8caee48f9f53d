-- The words of the control record and of the open branch's own, as the work area has them.
use Rattle.std.proofs.Common.{◌≡◌, sym, ap, ◌∙◌, ℕ, ◌+◌, ◌<◌, ◌≤◌, List, [], length, get_or, arith}
use Rattle.records.specs.Records.{Rec, record_of}
use Rattle.records.proofs.Rows.{view_at}
use Rattle.branches.specs.Area.{Stored, HeldIn, with_open, used}
use Rattle.branches.specs.declared.Open.{Open}
use Rattle.branches.specs.Open.{open_of}
use Rattle.branches.proofs.AreaLaws.{lies, first_is, own_of, control, at_of, end_of, own_read, room_is}

-- Word j of the control record: the first says where the open branch starts. Word j of the branch's own record.
abbrev pub ctl_word : List (List ℕ) → ℕ → ℕ
ctl_word w j = get_or (get_or w 0 []) j 0

abbrev pub own_word : List (List ℕ) → ℕ → ℕ
own_word w j = get_or (get_or w (ctl_word w 0) []) j 0

module _ (w : List (List ℕ)) {b : Stored} {bs ss : List Stored} (H : HeldIn w (with_open b bs ss)) where
  pub control_row : record_of (ctl_word w 0) (ctl_word w 1) (ctl_word w 2) (ctl_word w 3) ≡ control b bs ss H.free
  control_row = sym (view_at w 0) ∙ first_is (lies H)

  pub own_row : record_of (own_word w 0) (own_word w 1) (own_word w 2) (own_word w 3) ≡ own_of b bs
  own_row = sym (view_at w (ctl_word w 0)) ∙ own_read H (ctl_word w 0) (ap (λ (r : Rec). r.w0) (sym (view_at w 0)))

  pub open_row : ◌≡◌ {A = Open} (record { first = ctl_word w 0 + 1; p = own_word w 0; q = own_word w 1; t = own_word w 2 }) (open_of b bs)
  open_row = λ k. record { first = (control_row k).w0 + 1; p = (own_row k).w0; q = (own_row k).w1; t = (own_row k).w2 }

  -- The words of the control record, one by one.
  pub start_row : ctl_word w 0 ≡ at_of bs
  start_row = ap (λ (r : Rec). r.w0) control_row

  pub end_row : ctl_word w 1 ≡ end_of b bs
  end_row = ap (λ (r : Rec). r.w1) control_row

  pub top_row : ctl_word w 2 ≡ end_of b bs + length H.free
  top_row = ap (λ (r : Rec). r.w2) control_row

  pub systems_row : ctl_word w 3 ≡ length ss
  systems_row = ap (λ (r : Rec). r.w3) control_row

  -- The open branch and the free records behind it lie inside.
  pub rows_inside : (ctl_word w 0 < ctl_word w 1) × (ctl_word w 1 ≤ ctl_word w 2) × (ctl_word w 2 ≤ used w)
  rows_inside = (omega (arith, start_row, end_row), omega (arith, end_row, top_row), omega (arith, top_row, room_is H))
