-- Work areas of one length hold the same.
use Rattle.std.proofs.Common.{◌≡◌, ap, subst, List, ℕ, length, min, Result}
use mathlib.Core.Path.{transport}
use Rattle.records.specs.Records.{Rec}
use Rattle.tables.specs.declared.Reason.{Reason}
use Rattle.branches.specs.Area.{Area, Held, Leaves, used}

pub same_used : (xs ys : List (List ℕ)) → length xs ≡ length ys → used xs ≡ used ys
same_used xs ys e = ap (λ (n : ℕ). min n 65536) e

pub held_by : (v : List Rec) (a : Area) (xs ys : List (List ℕ)) → length xs ≡ length ys → Held v (used xs) a → Held v (used ys) a
held_by v a xs ys e H = subst (λ (n : ℕ). Held v n a) (same_used xs ys e) H

pub left_by : (v : List Rec) (r : Result (Unit {0}) Reason) {a₀ a₀' a a' : Area} (xs ys : List (List ℕ)) → length xs ≡ length ys → a₀ ≡ a₀' → a ≡ a'
    → Leaves (used xs) a₀ a r v → Leaves (used ys) a₀' a' r v
left_by v r xs ys e f₀ f L = transport (λ k. Leaves (same_used xs ys e k) (f₀ k) (f k) r v) L
