-- One polynomial more, or one less, among those of the open branch: where it lies, and which state the work area holds then.
use Rattle.std.specs.Prelude.{◌≡◌, refl, List, [], ◌∷◌, ◌++◌, ℕ, ◌-◌, length, get_or, set}
use Rattle.records.specs.Records.{Rec, record_of, zero_record}
use Rattle.branches.specs.Area.{Stored, HeldIn, with_open}
use Rattle.branches.specs.Members.{behind}
use Rattle.polynomials.specs.declared.Term.{Term as Packed}

-- The branch c has the polynomial f besides those of b, between xs and ys.
pub record More (b c : Stored) (xs : List (List Packed)) (f : List Packed) (ys : List (List Packed)) : Type 0 where
  pub less : b.P ++ (b.Q ++ b.T) ≡ xs ++ ys
  pub more : c.P ++ (c.Q ++ c.T) ≡ xs ++ (f ∷ ys)

-- So many members P, Q and T have.
pub record Counts (p q t : ℕ) (b : Stored) : Type 0 where
  pub in_p : p ≡ length b.P
  pub in_q : q ≡ length b.Q
  pub in_t : t ≡ length b.T

-- The records hold a branch b that becomes c, with p, q and t members, when f is put in at record `to`.
pub record PutAt (w : List (List ℕ)) (to : ℕ) (f : List Packed) (p q t : ℕ) (c : Stored) (bs ss : List Stored) : Type 0 where
  pub b : Stored
  pub held : HeldIn w (with_open b bs ss)
  pub xs : List (List Packed)
  pub ys : List (List Packed)
  pub adds : More b c xs f ys
  pub there : to ≡ behind bs xs
  pub counts : Counts p q t c

-- The records hold a branch c that becomes b, with p, q and t members, when the polynomial at record `from` is taken out.
pub record TakeAt (w : List (List ℕ)) (from : ℕ) (p q t : ℕ) (b : Stored) (bs ss : List Stored) : Type 0 where
  pub c : Stored
  pub held : HeldIn w (with_open c bs ss)
  pub xs : List (List Packed)
  pub f : List Packed
  pub ys : List (List Packed)
  pub takes : More b c xs f ys
  pub there : from ≡ behind bs xs
  pub counts : Counts p q t b

-- Φ is true of some open branch, with some waiting ones and systems.
abbrev pub SomeOpen : (Stored → List Stored → List Stored → Type 0) → Type 0
SomeOpen Φ = (b : Stored) × (bs : List Stored) × (ss : List Stored) × Φ b bs ss

-- How many records lie between the open branch and the systems, by the control record.
abbrev pub free_records : List (List ℕ) → ℕ
free_records w = get_or (get_or w 0 []) 2 0 - get_or (get_or w 0 []) 1 0

-- The open branch's own record and the control record written anew, with other counts and another end.
abbrev pub resized : List Rec → ℕ → ℕ → ℕ → ℕ → List Rec
resized v end p q t =
    let first : Rec = get_or v 0 zero_record in
    set (set v first.w0 (record_of p q t (get_or v first.w0 zero_record).w3)) 0 (record_of first.w0 end first.w2 first.w3)

-- A branch at record 1 gets its first member, of one term.
two_records : resized (record_of 1 2 9 3 ∷ (record_of 0 0 0 5 ∷ [])) 4 1 0 0 ≡ record_of 1 4 9 3 ∷ (record_of 1 0 0 5 ∷ [])
two_records = refl
