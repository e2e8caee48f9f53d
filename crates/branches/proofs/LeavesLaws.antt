-- What an operation leaves that may find no room: where the state is held, where it does not fit, and what is held where it fits.
use Rattle.std.proofs.Common.{◌≡◌, refl, sym, ap, subst, ◌∙◌, false, ℕ, ◌+◌, ◌≤◌, ◌<◌, List, length, Result, Ok, Err, arith}
use mathlib.Core.Bool.{false≢true}
use borrow.Author.Tests.{leb-true, leb-false, le-leb, lt-leb}
use Rattle.std.specs.Prelude.{is_ok, IsOk, IsErr, IsErrAnd}
use Rattle.std.proofs.lemmas.Result.{err_from_is_err_and}
use Rattle.tables.specs.declared.Reason.{Reason}
use Rattle.tables.specs.declared.Reason.TheVariants.{Room}
use Rattle.records.specs.Records.{Rec}
use Rattle.branches.specs.laws.Fitted.{has_room, lacks_room}
use Rattle.branches.specs.Area.{Area, Held, Leaves, fitted, size}

-- The records that are not in use are free.
pub size_free : {v : List Rec} {most : ℕ} {a : Area} (H : Held v most a) → size a + length H.free ≡ most
unfolding size
size_free H = omega (arith, H.fits)

pub leaves_held : {v : List Rec} {most : ℕ} {a₀ a : Area} → Held v most a → Leaves most a₀ a (Ok tt) v
leaves_held {v} {most} {a = a} H =
    record { answer = sym (ap fitted (le-leb (size a) most (omega (arith, size_free H)))); held = λ e. H; otherwise = λ e. absurd (false≢true e) }

pub leaves_none : {v : List Rec} {most : ℕ} {a₀ a : Area} → Held v most a₀ → most < size a → Leaves most a₀ a (Err Room) v
leaves_none {v} {most} {a = a} H h =
    record { answer = sym (ap fitted (lt-leb (size a) most h)); held = λ e. absurd (false≢true e); otherwise = λ e. H }

pub held_left : {v : List Rec} {most : ℕ} {a₀ a : Area} {r : Result (Unit {0}) Reason} → Leaves most a₀ a r v → size a ≤ most → Held v most a
held_left {most = most} {a = a} L h = L.held (ap is_ok (L.answer ∙ ap fitted (le-leb (size a) most h)))

err_ok : (r : Result (Unit {0}) Reason) → IsErr r → is_ok r ≡ false
err_ok (Ok x) e = absurd (false≢true e)
err_ok (Err x) e = refl

-- What the answer says of the state's size.
module _ {v : List Rec} {most : ℕ} {a₀ a : Area} {r : Result (Unit {0}) Reason} (L : Leaves most a₀ a r v) where
  pub leaves_fits : IsOk r → size a ≤ most
  leaves_fits e = leb-true (size a) most (has_room L.answer e)

  pub leaves_over : IsErr r → most < size a
  leaves_over e = leb-false (size a) most (lacks_room L.answer e)

  -- A larger state finds no room either.
  pub larger_none : (a' : Area) → IsErr r → size a ≤ size a' → Leaves most a₀ a' r v
  larger_none a' e h =
      let over = leaves_over e in
      record {
        answer = L.answer ∙ ap fitted (lt-leb (size a) most over ∙ sym (lt-leb (size a') most (omega (arith, over))));
        held = λ t. absurd (false≢true (sym (err_ok r e) ∙ t));
        otherwise = λ t. L.otherwise e;
      }

-- A refusal that a `?` hands on, as r.
pub handed : {v : List Rec} {most : ℕ} {a₀ a : Area} {q : Result (Unit {0}) Reason} {x : Reason} (r : Result (Unit {0}) Reason) → IsErrAnd r (λ y. y ≡ x) → q ≡ Err x
    → Leaves most a₀ a q v → Leaves most a₀ a r v
handed {v} {most} {a₀} {a} r e was L =
    let p = err_from_is_err_and r e in
    subst (λ (r : Result (Unit {0}) Reason). Leaves most a₀ a r v) (sym (p.1 ∙ ap Err p.2 ∙ sym was)) L
