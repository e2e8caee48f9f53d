-- The members of a division, one at a time, against where their loop began: a member is taken out, it is divided, and its remainder is put.
use mathlib.Core.Path.{◌≡◌, refl, sym, ap, subst, ◌∙◌}
use mathlib.Core.Logic.{◌≢◌}
use mathlib.Core.Bool.{Bool, true, false}
use mathlib.Core.List.{List, [], map, reverse}
use Prim.Native.Nat.{ℕ, ◌-◌, ◌≤◌, ◌<◌}
use Rattle.std.specs.Prelude.{leb, Result, Err, IsOk, IsErr}
use native.Mathlib.Omega.{arith}
use native.Mathlib.Nat.{sub-zero}
use lib.ListN.{length, take, drop, length-append, length-drop, length-take}
use lib.Seq.{take_all, drop-length}
use Rattle.residues.specs.Prime.{Prime}
use Rattle.polynomials.specs.Poly.{Poly, monic}
use Rattle.polynomials.specs.Packed.{terms}
use Rattle.polynomials.specs.Working.{Holds}
use Rattle.polynomials.specs.Bounds.{Bounded, within, degree_passed, terms_passed}
use Rattle.tables.specs.declared.Reason.{Reason}
use Rattle.tables.specs.declared.Reason.TheVariants.{Degree, Terms}
use Rattle.rules.specs.Room.{Limits}
use Rattle.rules.specs.Step.{Stepped, next, stopped, after_division, remainder_by, state, replace}
use Rattle.records.specs.Records.{view}
use Rattle.branches.specs.Words.{put_q, put_q_before, remove}
use Rattle.branches.specs.Area.{Stored, Held, Leaves, Opened, with_open, without_p, without_q, size, HeldIn, used}
use Rattle.branches.proofs.LengthLaws.{held_by, same_used}
use Rattle.branches.specs.laws.Fitted.{has_room, lacks_room, reason_is}
use Rattle.branches.specs.laws.Words.{length_remove, each_remove}
use Rattle.representation.specs.Represent.{Sound, branch_of, system_of, state_of, with_new, Monic}
use Rattle.representation.specs.laws.Lists.{sound_at}
use Rattle.representation.specs.laws.Sounds.{put_into_p_sound, put_into_q_sound, without_p_sound, without_q_sound}
use Rattle.representation.specs.laws.Monics.{stored_monic, remove_monic, put_p_monic}
use Rattle.representation.specs.laws.Steps.{if_fits}
use Rattle.representation.specs.Ready.{Ready, limits_in}
use Rattle.members.specs.declared.Dividends.{Dividends}
use Rattle.members.specs.declared.Dividends.TheVariants.{InP, InQ}
use Rattle.members.specs.Members.{HasLeft, HasMembers, HasBehind, next_member, taken_out, put_in, rest_of_step}
use Rattle.representation.specs.laws.Lists.{put_p_nonzero}
use Rattle.members.proofs.TakeLaws.{Took}
use Rattle.members.proofs.MemberLaws.{takes, onward, step_put}
use Rattle.branches.proofs.Unique.{of_every}
use Rattle.run.proofs.Invariants.{rest_in, AtMembers}
use Rattle.polynomials.specs.declared.Term.{Term as Packed}

-- ── what stays true of the branch ──
long_before : (r : List Packed) (left : ℕ) (fs : List (List Packed)) → left ≤ length fs → left ≤ length (put_q_before left r fs)
unfolding put_q_before
long_before r left fs q =
    let k = length fs - left in
    omega (arith, q, length-append (put_q r (take k fs)) (drop k fs), length-drop k fs)

module _ (p left : ℕ) (b : Stored) (bs ss : List Stored) where
  ready_put : (d : Dividends) → Ready p (with_open b bs ss) → (r : List Packed) → Sound p r → Monic (terms r)
      → Ready p (with_open (put_in d (left - 1) r (taken_out d left b)) bs ss)
  ready_put (InP place) R r s m =
      let S = put_into_p_sound p (without_p place b) (without_p_sound p b R.sound.branches.0 place) r s in
      record {
        sound = record { branches = (S, R.sound.branches.1); systems = R.sound.systems };
        monic = (put_p_monic r (remove place b.P) m (remove_monic place b.P R.monic.0), R.monic.1);
        nonzero = (put_p_nonzero r (remove place b.P) (each_remove (λ f. f ≢ []) place b.P R.nonzero.0), R.nonzero.1);
        listed = R.listed;
      }
  ready_put (InQ n) R r s m =
      let j = length b.Q - left in
      let S = put_into_q_sound p (without_q j b) (without_q_sound p b R.sound.branches.0 j) (left - 1) r s in
      record {
        sound = record { branches = (S, R.sound.branches.1); systems = R.sound.systems };
        monic = R.monic;
        nonzero = R.nonzero;
        listed = R.listed;
      }

  module _ (some : 1 ≤ left) where
    has_left : (d : Dividends) → HasMembers d left b → HasLeft d left b
    has_left (InP place) h = h.1 some
    has_left (InQ n) h = (some, h)

    has_behind : (d : Dividends) → HasMembers d left b → HasBehind d (left - 1) (taken_out d left b)
    has_behind (InP place) h = tt
    has_behind (InQ n) h = omega (arith, some, h, length_remove (length b.Q - left) b.Q (omega (arith, some, h)))

    has_put : (d : Dividends) (r : List Packed) → HasMembers d left b
        → HasMembers d (left - 1) (put_in d (left - 1) r (taken_out d left b))
    has_put (InP place) r h = (omega (arith, h.0), λ q. absurd (omega (arith, q, h.0)))
    has_put (InQ n) r h = long_before r (left - 1) (remove (length b.Q - left) b.Q) (has_behind (InQ n) h)

  member_sound : (d : Dividends) → Ready p (with_open b bs ss) → Sound p (next_member d left b)
  member_sound (InP place) R = sound_at p place b.P R.sound.branches.0.in_p
  member_sound (InQ n) R = sound_at p (length b.Q - left) b.Q R.sound.branches.0.in_q

-- ── where the loop begins ──
pub members_begin : (p k : ℕ) (f : Poly) (d : Dividends) (left : ℕ) (w : List (List ℕ)) (b : Stored) (bs ss : List Stored)
    → HeldIn w (with_open b bs ss) → Ready p (with_open b bs ss) → HasMembers d left b
    → AtMembers p k f d left w w left
members_begin p k f d left w b bs ss H R M = record { same = refl; some = (b, bs, ss, H, R, M); all = λ c cs us H R M. (c, H, R, M, refl) }

-- ── a member taken out ──
-- The first n words of r are the next member, and it is out of the area.
pub record AtMember (p k : ℕ) (f : Poly) (d : Dividends) (left₀ : ℕ) (w₀ w : List (List ℕ)) (left n : ℕ) (r : List Packed) : Type 0 where
  pub same : length w ≡ length w₀
  pub one : 1 ≤ left
  pub some :
      (b : Stored) × (bs : List Stored) × (ss : List Stored) × Took d left b bs ss n r (view w) (used w₀) × Ready p (with_open b bs ss)
      × HasMembers d left b
  pub all :
      (b₀ : Stored) (bs ss : List Stored) → HeldIn w₀ (with_open b₀ bs ss) → Ready p (with_open b₀ bs ss)
      → HasMembers d left₀ b₀
      → (b : Stored) × Took d left b bs ss n r (view w) (used w₀) × Ready p (with_open b bs ss) × HasMembers d left b
      × (rest_in (used w₀) p d left k f b bs ss ≡ rest_in (used w₀) p d left₀ k f b₀ bs ss)

-- The terms s were made monic, as the terms u, and put into the area w. The answer is q, and v is the area then.
pub record PutBack (p : ℕ) (d : Dividends) (left : ℕ) (s u : List Packed) (w : List (List ℕ)) (q : Result (Unit {0}) Reason) (v : List (List ℕ)) : Type 0 where
  pub same : length v ≡ length w
  pub sound : Sound p u
  pub monic_of : terms u ≡ monic p (terms s)
  pub puts :
      (b : Stored) (bs ss : List Stored) → HeldIn w (with_open b bs ss)
      → Leaves (used w) (with_open b bs ss) (with_open (put_in d left u b) bs ss) q (view v)

-- What is left of the step comes to S, from whatever state was held where the loop began.
abbrev pub ComesTo : ℕ → ℕ → Poly → Dividends → ℕ → List (List ℕ) → Stepped → Type 0
ComesTo p k f d left₀ w₀ S =
    (b₀ : Stored) (bs ss : List Stored) → HeldIn w₀ (with_open b₀ bs ss) → Ready p (with_open b₀ bs ss)
    → HasMembers d left₀ b₀
    → rest_in (used w₀) p d left₀ k f b₀ bs ss ≡ S

module _ {p k : ℕ} {f : Poly} {d : Dividends} {left₀ : ℕ} {w₀ w : List (List ℕ)} {left : ℕ} where
  module _ (A : AtMembers p k f d left₀ w₀ w left) where
    pub members_open : Opened w
    members_open = let s = A.some in (s.0, s.1, s.2, subst (λ (m : ℕ). Held (view w) m (with_open s.0 s.1 s.2)) (sym (same_used w w₀ A.same)) s.3)

    pub members_left : 1 ≤ left → (b : Stored) (bs ss : List Stored) → HeldIn w (with_open b bs ss) → HasLeft d left b
    members_left one b bs ss H =
        let s = A.some in
        of_left d (subst (λ (m : ℕ). Held (view w) m (with_open b bs ss)) (same_used w w₀ A.same) H) s.3 (has_left p left s.0 s.1 s.2 one d s.5)
      where
        of_left : (d : Dividends) {b c : Stored} {bs ss cs us : List Stored} → Held (view w) (used w₀) (with_open b bs ss)
            → Held (view w) (used w₀) (with_open c cs us)
            → HasLeft d left c → HasLeft d left b
        of_left (InP place) {b} {c} {bs} {ss} {cs} {us} H K h = of_every (λ P Q. place < length P) K h b bs ss H
        of_left (InQ n) {b} {c} {bs} {ss} {cs} {us} H K h = of_every (λ P Q. (1 ≤ left) × (left ≤ length Q)) K h b bs ss H

    pub member_taken : 1 ≤ left → (v : List (List ℕ)) (n : ℕ) (r : List Packed) → length v ≡ length w
        → ((b : Stored) (bs ss : List Stored) → HeldIn w (with_open b bs ss) → Took d left b bs ss n r (view v) (used w))
        → AtMember p k f d left₀ w₀ v left n r
    member_taken one v n r e took = record {
      same = e ∙ A.same;
      one = one;
      some = let s = A.some in (s.0, s.1, s.2, taken s.0 s.1 s.2 s.3, s.4, s.5);
      all = λ b₀ bs ss H R M. let s = A.all b₀ bs ss H R M in (s.0, taken s.0 bs ss s.1, s.2, s.3, s.4);
    }
      where
        taken : (b : Stored) (bs ss : List Stored) → Held (view w) (used w₀) (with_open b bs ss)
            → Took d left b bs ss n r (view v) (used w₀)
        taken b bs ss H =
            subst (λ (m : ℕ). Took d left b bs ss n r (view v) m) (same_used w w₀ A.same)
            (took b bs ss (subst (λ (m : ℕ). Held (view w) m (with_open b bs ss)) (sym (same_used w w₀ A.same)) H))

  -- ── its remainder put ──
  module _ {n : ℕ} {r : List Packed} (A : AtMember p k f d left₀ w₀ w left n r) where
    pub member_inside : n ≤ length r
    member_inside = let s = A.some.3 in omega (arith, s.0, ap length s.1, length-take n r)

    pub member_holds : Holds p (take n r)
    member_holds = let s = A.some in subst (Holds p) (sym s.3.1) (member_sound p left s.0 s.1 s.2 d s.4).holds

    -- What the area holds while the member is out.
    pub member_open : Opened w
    member_open =
        let s = A.some in
        let b = taken_out d left s.0 in
        (b, s.1, s.2, subst (λ (m : ℕ). Held (view w) m (with_open b s.1 s.2)) (sym (same_used w w₀ A.same)) s.3.2)

    pub member_behind : (b : Stored) (bs ss : List Stored) → HeldIn w (with_open b bs ss) → HasBehind d (left - 1) b
    member_behind b bs ss H =
        let s = A.some in
        let H₀ = subst (λ (m : ℕ). Held (view w) m (with_open b bs ss)) (same_used w w₀ A.same) H in
        of_behind d H₀ s.3.2 (has_behind p left s.0 s.1 s.2 A.one d s.5)
      where
        of_behind : (d : Dividends) {b c : Stored} {bs ss cs us : List Stored} → Held (view w) (used w₀) (with_open b bs ss)
            → Held (view w) (used w₀) (with_open c cs us) → HasBehind d (left - 1) c → HasBehind d (left - 1) b
        of_behind (InP place) H K h = tt
        of_behind (InQ n) {b} {c} {bs} {ss} {cs} {us} H K h = of_every (λ P Q. left - 1 ≤ length Q) K h b bs ss H

    abbrev remainder : Bounded
    remainder = remainder_by (limits_in (used w₀)) p k f (terms (take n r))

    -- A limit met in the division stops the step.
    member_stops : (why : Reason) (B : Bounded) → ((k : Poly → Stepped) → after_division B k ≡ stopped why) → remainder ≡ B
        → ComesTo p k f d left₀ w₀ (stopped why)
    member_stops why B stop e b₀ bs ss H R M =
        let s = A.all b₀ bs ss H R M in
        let l = limits_in (used w₀) in
        let on = onward l p k f s.0 bs ss d left in
        let met = ap (λ (g : List Packed). remainder_by l p k f (terms g)) (sym s.1.1) ∙ e in
        sym s.4 ∙ takes l p k f s.0 bs ss d left A.one (has_left p left s.0 bs ss A.one d s.3)
        ∙ ap (λ (B : Bounded). after_division B on) met ∙ stop on

    pub member_degree : remainder ≡ degree_passed → ComesTo p k f d left₀ w₀ (stopped Degree)
    member_degree = member_stops Degree degree_passed (λ k. refl)

    pub member_terms : remainder ≡ terms_passed → ComesTo p k f d left₀ w₀ (stopped Terms)
    member_terms = member_stops Terms terms_passed (λ k. refl)

    -- The remainder is in the terms s, and it was put back.
    module _ (prime : Prime p) {s u : List Packed} (holds : Holds p s) (e : remainder ≡ within (terms s)) {v : List (List ℕ)} {q : Result (Unit {0}) Reason}
        (B : PutBack p d (left - 1) s u w q v) where
      -- b is the branch where the member was taken.
      module _ (b : Stored) (bs ss : List Stored) (T : Took d left b bs ss n r (view w) (used w₀)) (R : Ready p (with_open b bs ss))
          (M : HasMembers d left b) where
        abbrev after : Stored
        after = put_in d (left - 1) u (taken_out d left b)

        was_put : Leaves (used w₀) (with_open (taken_out d left b) bs ss) (with_open after bs ss) q (view v)
        was_put =
            let c = taken_out d left b in
            subst (λ (m : ℕ). Leaves m (with_open c bs ss) (with_open after bs ss) q (view v)) (same_used w w₀ A.same)
            (B.puts c bs ss (subst (λ (m : ℕ). Held (view w) m (with_open c bs ss)) (sym (same_used w w₀ A.same)) T.2))

        ready_after : Ready p (with_open after bs ss)
        ready_after = ready_put p left b bs ss d R u B.sound (stored_monic p u (terms s) prime holds.canonical B.monic_of)

        has_after : HasMembers d (left - 1) after
        has_after = has_put p left b bs ss A.one d u M

        -- The step goes on if there is room.
        goes_as : (o : Bool) → leb (size (with_open after bs ss)) (used w₀) ≡ o
            → rest_in (used w₀) p d left k f b bs ss ≡ if_fits o (rest_in (used w₀) p d (left - 1) k f after bs ss)
        goes_as o t =
            step_put (limits_in (used w₀)) p k f b bs ss left u (terms s) B.sound B.monic_of R.sound.branches.0 (used w₀) refl
            (omega (arith, T.2.fits)) R.listed A.one d M (ap (λ (g : List Packed). remainder_by (limits_in (used w₀)) p k f (terms g)) (sym T.1) ∙ e)
            ∙ ap (λ (o : Bool). if_fits o (rest_in (used w₀) p d (left - 1) k f after bs ss)) t

      member_put : IsOk q → AtMembers p k f d left₀ w₀ v (left - 1)
      member_put t = record {
        same = B.same ∙ A.same;
        some =
            let s = A.some in
            let b = s.0 in
            let bs = s.1 in
            let ss = s.2 in (
              after b bs ss s.3 s.4 s.5,
              bs,
              ss,
              (was_put b bs ss s.3 s.4 s.5).held t,
              ready_after b bs ss s.3 s.4 s.5,
              has_after b bs ss s.3 s.4 s.5,
            );
        all = λ b₀ bs ss H R M.
            let s = A.all b₀ bs ss H R M in
            let b = s.0 in (
              after b bs ss s.1 s.2 s.3,
              (was_put b bs ss s.1 s.2 s.3).held t,
              ready_after b bs ss s.1 s.2 s.3,
              has_after b bs ss s.1 s.2 s.3,
              sym (goes_as b bs ss s.1 s.2 s.3 true (has_room (was_put b bs ss s.1 s.2 s.3).answer t)) ∙ s.4,
            );
      }

      module _ (why : Reason) (t : q ≡ Err why) where
        no_room : IsErr q
        no_room = subst IsErr (sym t) refl

        member_not_put : ComesTo p k f d left₀ w₀ (stopped why)
        member_not_put b₀ bs ss H R M =
            let s = A.all b₀ bs ss H R M in
            let answer = (was_put s.0 bs ss s.1 s.2 s.3).answer in
            sym s.4 ∙ goes_as s.0 bs ss s.1 s.2 s.3 false (lacks_room answer no_room) ∙ ap stopped (sym (reason_is _ (sym t ∙ answer)))

        member_stays_out : Opened v
        member_stays_out =
            let s = A.some in
            let held = (was_put s.0 s.1 s.2 s.3 s.4 s.5).otherwise no_room in
            (taken_out d left s.0, s.1, s.2, held_by _ _ w₀ v (sym (B.same ∙ A.same)) held)

      -- Where there is room, the members go on; else the step stops, and the member stays out.
      pub member_put_back :
          (IsOk q → AtMembers p k f d left₀ w₀ v (left - 1))
          × ((why : Reason) → q ≡ Err why → ComesTo p k f d left₀ w₀ (stopped why) × Opened v)
      member_put_back = (member_put, λ why t. (member_not_put why t, member_stays_out why t))

-- ── where the loop ends ──
module _ (l : Limits) (p k : ℕ) (f : Poly) (b : Stored) (bs ss : List Stored) where
  no_members : (d : Dividends) → rest_of_step l p d 0 k f b bs ss ≡ next (state_of (with_open b bs ss))
  unfolding rest_of_step replace
  no_members (InP place) = refl
  no_members (InQ m) =
      let n = length b.Q - 0 in
      let bs' = map branch_of bs in
      let ss' = reverse (map system_of ss) in
      let none = ap (λ (m : ℕ). drop m b.Q) (sub-zero (length b.Q)) ∙ drop-length b.Q in
      ap (λ (fs : List (List Packed)). replace l p bs' ss' k f (map terms fs) (with_new b (take n b.Q))) none
      ∙ ap (λ (fs : List (List Packed)). next (state l p bs' ss' (with_new b fs))) (take_all n b.Q (omega arith))

  pub members_end : (d : Dividends) (left : ℕ) → left ≡ 0 → rest_of_step l p d left k f b bs ss ≡ next (state_of (with_open b bs ss))
  members_end d left e = ap (λ (n : ℕ). rest_of_step l p d n k f b bs ss) e ∙ no_members d
