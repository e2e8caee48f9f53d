-- Pieces appended one behind the other over free records.
use mathlib.Core.Path.{◌≡◌, sym, ap, ◌∙◌}
use mathlib.Core.List.{List, [], ◌++◌, append_assoc, append-nil}
use Prim.Native.Nat.{ℕ, ◌+◌, ◌≤◌}
use native.Mathlib.Omega.{arith}
use lib.ListN.{length, take, drop, length-append, length-drop}
use lib.Seq.{take_all, take_at, drop_at, drop-append-add, paste, drop-drop}
use Rattle.records.specs.Records.{Rec, moved}

-- ── appending to a list of records, over free ones ──
-- X is what was there, m what is appended so far, and the first k records of `after` are overwritten.
appended : (X m after b src u u' : List Rec) (to k n : ℕ) → u ≡ X ++ (m ++ drop k after) → length X + length m ≡ to → take n src ≡ b
    → u' ≡ paste u to src n → u' ≡ X ++ ((m ++ b) ++ drop (k + n) after)
appended X m after b src u u' to k n e l here e' =
    let e₁ : u ≡ (X ++ m) ++ drop k after = e ∙ sym (append_assoc X m (drop k after)) in
    let lX : length (X ++ m) ≡ to = omega (arith, length-append X m) in
    let behind : to + n ≡ length (X ++ m) + n = omega arith in
    let rest : drop (to + n) u ≡ drop (k + n) after = (λ t. drop (behind t) (e₁ t)) ∙ drop-append-add (X ++ m) (drop k after) n ∙ drop-drop n k after in
    e' ∙ (λ t. (ap (take to) e₁ ∙ take_at (X ++ m) (drop k after) to lX) t ++ here t ++ rest t) ∙ simp append_assoc

copied : (X m after A b Z u u' : List Rec) (from to k n : ℕ) → u ≡ X ++ (m ++ drop k after) → length X + length m ≡ to → X ≡ A ++ (b ++ Z) → length A ≡ from
    → length b ≡ n → u' ≡ moved u from n to → u' ≡ X ++ ((m ++ b) ++ drop (k + n) after)
copied X m after A b Z u u' from to k n e l split la lb e' =
    let rest : List Rec = m ++ drop k after in
    let there : drop from u ≡ b ++ (Z ++ rest) =
    ap (drop from) (e ∙ ap (λ (x : List Rec). x ++ rest) split ∙ simp append_assoc) ∙ drop_at A (b ++ (Z ++ rest)) from la in
    appended X m after b (drop from u) u u' to k n e l (ap (take n) there ∙ take_at b (Z ++ rest) n lb) e'

-- The free records that are left once the first k of them are used.
pub top_left : (k end end' top : ℕ) (l : List Rec) → end + k ≡ end' → k ≤ length l → top ≡ end + length l → top ≡ end' + length (drop k l)
top_left k end end' top l e h t = omega (arith, length-drop k l)

pub last_part : (a b d : List Rec) → a ++ (b ++ d) ≡ a ++ b ++ (d ++ [])
last_part a b d = sym (append_assoc a b d) ∙ ap (λ (u : List Rec). a ++ b ++ u) (sym (append-nil d))

-- The records v are X, then the pieces m, k records in all and up to record a, and then what is left of `after`.
pub record Grown (X after m : List Rec) (k : ℕ) (v : List Rec) (a : ℕ) : Type 0 where
  pub is : v ≡ X ++ (m ++ drop k after)
  pub over : length m ≡ k
  pub up_to : a ≡ length X + k

module _ {X after m : List Rec} {k : ℕ} {v : List Rec} {a : ℕ} (G : Grown X after m k v a) where
  here : length X + length m ≡ a
  here = omega (arith, G)

  -- A piece of x records is copied from X, or is stored.
  pub grow_copied : (A b Z : List Rec) {from x a₁ : ℕ} {v₁ : List Rec} → (X ≡ A ++ (b ++ Z)) × (length A ≡ from) × (length b ≡ x)
      → (a₁ ≡ a + x) × (v₁ ≡ moved v from x a) → Grown X after (m ++ b) (k + x) v₁ a₁
  grow_copied A b Z {from} {x} {a₁} {v₁} s e = record {
    is = copied X m after A b Z v v₁ from a k x G.is here s.0 s.1 s.2 e.1;
    over = omega (arith, G.over, s.2, length-append m b);
    up_to = omega (arith, G.up_to, e.0);
  }

  pub grow_stored : (b : List Rec) {x a₁ : ℕ} {v₁ : List Rec} → length b ≡ x → (a₁ ≡ a + x) × (v₁ ≡ paste v a b x)
      → Grown X after (m ++ b) (k + x) v₁ a₁
  grow_stored b {x} {a₁} {v₁} s e = record {
    is = appended X m after b b v v₁ a k x G.is here (take_all x b (omega (arith, s))) e.1;
    over = omega (arith, G.over, s, length-append m b);
    up_to = omega (arith, G.up_to, e.0);
  }
