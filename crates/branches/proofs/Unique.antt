-- The records of the work area tell P and Q of its open branch.
use mathlib.Core.Path.{◌≡◌, refl, sym, ◌∙◌, subst}
use mathlib.Core.List.{List}
use Prim.Native.Nat.{ℕ, ◌+◌}
use lib.ListN.{get_or}
use Rattle.records.specs.Records.{Rec, zero_record}
use Rattle.stored.specs.Stored.{polys_at, skip_to}
use Rattle.branches.specs.Area.{Stored, Held, with_open}
use Rattle.branches.specs.declared.Open.{Open}
use Rattle.branches.specs.Open.{open_of}
use Rattle.branches.proofs.OpenLaws.{opened_is, all_p, all_q}
use Rattle.polynomials.specs.declared.Term.{Term as Packed}

-- What the words of the control record and of the open branch's own tell.
abbrev open_in : List Rec → Open
open_in v =
    let at : ℕ = (get_or v 0 zero_record).w0 in
    let own : Rec = get_or v at zero_record in
    record { first = at + 1; p = own.w0; q = own.w1; t = own.w2 }

abbrev p_in : List Rec → List (List Packed)
p_in v = polys_at v (open_in v).first (open_in v).p

abbrev q_in : List Rec → List (List Packed)
q_in v = polys_at v (skip_to v (open_in v).first (open_in v).p) (open_in v).q

module _ {v : List Rec} {most : ℕ} {b : Stored} {bs ss : List Stored} (H : Held v most (with_open b bs ss)) where
  read_open : open_in v ≡ open_of b bs
  read_open = opened_is H refl refl refl refl

  read_p : p_in v ≡ b.P
  read_p = all_p H read_open

  read_q : q_in v ≡ b.Q
  read_q = all_q H read_open refl

-- What holds of P and Q of one state that is held does of every one.
pub of_every : {v : List Rec} {most : ℕ} {b : Stored} {bs ss : List Stored} (X : List (List Packed) → List (List Packed) → Type 0) → Held v most (with_open b bs ss) → X b.P b.Q
    → (c : Stored) (cs us : List Stored) → Held v most (with_open c cs us) → X c.P c.Q
of_every {b = b} X H x c cs us K =
    subst (λ fs. X fs c.Q) (sym (read_p H) ∙ read_p K) (subst (λ gs. X b.P gs) (sym (read_q H) ∙ read_q K) x)
