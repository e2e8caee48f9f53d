-- The records beyond the first 65,536 stay where only records before them are written.
use mathlib.Core.Path.{◌≡◌, sym, ap, ◌∙◌}
use mathlib.Core.List.{List, ◌++◌, append_assoc}
use Prim.Native.Nat.{ℕ, ◌+◌, ◌-◌, ◌≤◌, ◌<◌}
use native.Mathlib.Omega.{arith}
use lib.ListN.{length, take, drop, set, length-append, length-drop}
use lib.Seq.{paste, length-take-le, drop-set-lt}
use Rattle.std.proofs.lemmas.Slice.{drop-append-drop}
use Rattle.records.specs.Records.{Rec, moved}
use Rattle.stored.specs.Stored.{inserted, removed}

module _ (v : List Rec) where
  pub set_stays : (i : ℕ) (r : Rec) → i < 65536 → drop 65536 (set v i r) ≡ drop 65536 v
  set_stays i r h = drop-set-lt 65536 v i r h

  pub paste_stays : (at n : ℕ) (s : List Rec) → at ≤ length v → n ≤ length s → at + n ≤ 65536 → drop 65536 (paste v at s n) ≡ drop 65536 v
  paste_stays at n s h k few =
      drop-append-drop (at + n) v (take at v ++ take n s) 65536 few
      (length-append (take at v) (take n s) ∙ (λ i. length-take-le at v h i + length-take-le n s k i))

  pub moved_stays : (from n to : ℕ) → from ≤ to → to + n ≤ length v → to + n ≤ 65536 → drop 65536 (moved v from n to) ≡ drop 65536 v
  moved_stays from n to h k few = paste_stays to n (drop from v) (omega (arith, k)) (omega (arith, h, k, length-drop from v)) few

  -- n records put in at i, and the m that follow there moved up behind them.
  pub inserted_stays : (i m : ℕ) (s : List Rec) → i + m ≤ length v → i + (length s + m) ≤ 65536 → drop 65536 (inserted v i m s) ≡ drop 65536 v
  inserted_stays i m s h few =
      let front : List Rec = take i v ++ (s ++ take m (drop i v)) in
      let back : List Rec = drop (i + (length s + m)) v in
      let is : front ++ back ≡ inserted v i m s = append_assoc (take i v) (s ++ take m (drop i v)) back ∙ ap (λ (u : List Rec). take i v ++ u) (append_assoc s (take m (drop i v)) back) in
      let middle = length-take-le m (drop i v) (omega (arith, h, length-drop i v)) in
      let long : length front ≡ i + (length s + m) =
      omega (arith, length-append (take i v) (s ++ take m (drop i v)), length-append s (take m (drop i v)), middle, length-take-le i v (omega (arith, h))) in
      ap (drop 65536) (sym is) ∙ drop-append-drop (i + (length s + m)) v front 65536 few long

  -- n records taken out at i, and the m behind them moved down.
  pub removed_stays : (i n m : ℕ) → i + (n + m) ≤ length v → i + m ≤ 65536 → drop 65536 (removed v i n m) ≡ drop 65536 v
  removed_stays i n m h few =
      let front : List Rec = take i v ++ take m (drop (i + n) v) in
      let is : front ++ drop (i + m) v ≡ removed v i n m = append_assoc (take i v) (take m (drop (i + n) v)) (drop (i + m) v) in
      let middle = length-take-le m (drop (i + n) v) (omega (arith, h, length-drop (i + n) v)) in
      let long : length front ≡ i + m = omega (arith, length-append (take i v) (take m (drop (i + n) v)), middle, length-take-le i v (omega (arith, h))) in
      ap (drop 65536) (sym is) ∙ drop-append-drop (i + m) v front 65536 few long

  -- The same of records that are told by an equation.
  module _ (v₁ : List Rec) where
    pub stored_beyond : (at n : ℕ) (s : List Rec) → v₁ ≡ paste v at s n → at ≤ length v → n ≤ length s → at + n ≤ 65536 → drop 65536 v₁ ≡ drop 65536 v
    stored_beyond at n s e h k few = ap (drop 65536) e ∙ paste_stays at n s h k few

    pub moved_beyond : (from n to : ℕ) → v₁ ≡ moved v from n to → from ≤ to → to + n ≤ length v → to + n ≤ 65536 → drop 65536 v₁ ≡ drop 65536 v
    moved_beyond from n to e h k few = ap (drop 65536) e ∙ moved_stays from n to h k few

    pub set_beyond : (i : ℕ) (r : Rec) → v₁ ≡ set v i r → i < 65536 → drop 65536 v₁ ≡ drop 65536 v
    set_beyond i r e h = ap (drop 65536) e ∙ set_stays i r h
