-- A split: the branch that stays open is what the definition says; where a state on the way finds no room the end has none; the state in which
-- the split stops then; and what is held after each call.
use mathlib.Core.Path.{◌≡◌, refl, sym, ap, subst, ◌∙◌}
use mathlib.Core.Bool.{Bool, true, false, ◌||◌}
use mathlib.Core.List.{List, [], ◌∷◌, ◌++◌, append_assoc, append-nil}
use Prim.Native.Nat.{ℕ, suc, ◌+◌, ◌-◌, ◌≤◌, ◌<◌}
use native.Mathlib.Omega.{arith}
use borrow.Author.Tests.{le-leb, lt-leb}
use lib.ListN.{length, take, drop, get_or, length-append, length-drop}
use lib.Seq.{take_at, drop_at, length-take-le, split_at}
use Rattle.std.specs.Prelude.{Result, IsOk, IsErr}
use Rattle.tables.specs.declared.Reason.{Reason}
use Rattle.records.specs.Records.{Rec, view}
use Rattle.stored.specs.Stored.{polys_records, member}
use Rattle.stored.specs.laws.Stored.{polys_records_append}
use Rattle.branches.specs.Words.{put_p, remove, unless, is_zero, is_one}
use Rattle.branches.specs.laws.Words.{put_q_before_none}
use Rattle.branches.specs.Area.{Stored, Area, Leaves, stack, branch_records, with_open, size, HeldIn, WhenOpen, OpenBecomes, used}
use Rattle.branches.specs.Area.{kept_open, aside, put_into_p, put_into_q, without_p, split_area, fitting, unfinished_split}
use Rattle.branches.specs.laws.Words.{remove_in_parts, length_remove}
use Rattle.branches.proofs.LeavesLaws.{leaves_fits, leaves_over, larger_none}
use Rattle.branches.proofs.LengthLaws.{held_by, left_by}
use Rattle.puts.proofs.PutLaws.{put_q_new}
use Rattle.polynomials.specs.declared.Term.{Term as Packed}

-- ── lists of polynomials ──
-- A put only adds behind.
added_p : List Packed → List (List Packed) → List (List Packed)
added_p f fs = unless (is_zero f || member f fs) f []

put_p_adds : (f : List Packed) (fs : List (List Packed)) → put_p f fs ≡ fs ++ added_p f fs
unfolding put_p added_p
put_p_adds f fs = go (is_zero f || member f fs)
  where
    go : (t : Bool) → unless t f fs ≡ fs ++ unless t f []
    go true = sym (append-nil fs)
    go false = refl

restored : (fs more : List (List Packed)) (i n : ℕ) (f : List Packed) → i < length fs → n + 1 ≡ length fs → get_or fs i [] ≡ f
    → take i (remove i fs ++ more) ++ (f ∷ take (n - i) (drop i (remove i fs ++ more))) ≡ fs
restored fs more i n f h l g =
    let e : remove i fs ++ more ≡ take i fs ++ (drop (suc i) fs ++ more) =
    ap (λ (x : List (List Packed)). x ++ more) (remove_in_parts i fs) ∙ append_assoc (take i fs) (drop (suc i) fs) more in
    let li : length (take i fs) ≡ i = length-take-le i fs (omega arith) in
    let front : take i (remove i fs ++ more) ≡ take i fs = ap (take i) e ∙ take_at (take i fs) (drop (suc i) fs ++ more) i li in
    let back : take (n - i) (drop i (remove i fs ++ more)) ≡ drop (suc i) fs =
    ap (take (n - i)) (ap (drop i) e ∙ drop_at (take i fs) (drop (suc i) fs ++ more) i li)
    ∙ take_at (drop (suc i) fs) more (n - i) (omega (arith, length-drop (suc i) fs)) in
    (λ t. front t ++ (sym g t ∷ back t)) ∙ sym (split_at fs i [] h)

-- P of the branch set aside begins with P without the pivot.
aside_p : (i : ℕ) (initial rest : List Packed) (b : Stored) → List (List Packed)
aside_p i initial rest b = added_p initial (remove i b.P) ++ added_p rest (put_p initial (remove i b.P))

aside_p_is : (i : ℕ) (initial rest : List Packed) (b : Stored) → (aside i initial rest b).P ≡ remove i b.P ++ aside_p i initial rest b
unfolding aside_p
aside_p_is i initial rest b =
    let first = put_p initial (remove i b.P) in
    put_p_adds rest first ∙ ap (λ (l : List (List Packed)). l ++ added_p rest first) (put_p_adds initial (remove i b.P))
    ∙ append_assoc (remove i b.P) (added_p initial (remove i b.P)) (added_p rest first)

pub length_aside : (i : ℕ) (initial rest : List Packed) (b : Stored) → i < length b.P → length b.P ≤ length (aside i initial rest b).P + 1
length_aside i initial rest b h =
    omega (arith, ap length (aside_p_is i initial rest b), length-append (remove i b.P) (aside_p i initial rest b), length_remove i b.P h)

pub kept_aside : (i n : ℕ) (f initial rest : List Packed) (b : Stored) → i < length b.P → n + 1 ≡ length b.P → get_or b.P i [] ≡ f → is_one initial ≡ false
    → member initial b.Q ≡ false → kept_open i n f initial (aside i initial rest b) ≡ put_into_q 0 initial b
kept_aside i n f initial rest b h l g one there =
    let in_p : take i (aside i initial rest b).P ++ (f ∷ take (n - i) (drop i (aside i initial rest b).P)) ≡ b.P =
    ap (λ (x : List (List Packed)). take i x ++ (f ∷ take (n - i) (drop i x))) (aside_p_is i initial rest b)
    ∙ restored b.P (aside_p i initial rest b) i n f h l g in
    λ t. record { P = in_p t; Q = sym (put_q_before_none initial b.Q ∙ put_q_new initial b.Q one there) t; T = b.T }

-- ── sizes ──
length_put : (f : List Packed) (b : Stored) (under : ℕ) → length (branch_records under b) ≤ length (branch_records under (put_into_p f b))
length_put f b under =
    let rest : List Rec = polys_records b.Q ++ polys_records b.T in
    let more : List Rec = polys_records (added_p f b.P) in
    let new : polys_records (put_p f b.P) ≡ polys_records b.P ++ more =
    ap polys_records (put_p_adds f b.P) ∙ polys_records_append b.P (added_p f b.P) in
    let old_length = length-append (polys_records b.P) rest in
    let new_length = length-append (polys_records (put_p f b.P)) rest in
    omega (arith, ap length new, length-append (polys_records b.P) more)

size_put : (f : List Packed) (b : Stored) (bs ss : List Stored) → size (with_open b bs ss) ≤ size (with_open (put_into_p f b) bs ss)
unfolding size
size_put f b bs ss =
    let old_length = length-append (stack bs).0 (branch_records (stack bs).1 b) in
    let new_length = length-append (stack bs).0 (branch_records (stack bs).1 (put_into_p f b)) in
    omega (arith, length_put f b (stack bs).1)

size_more : (b b' : Stored) (bs ss : List Stored) → size (with_open b bs ss) ≤ size (with_open b' (b ∷ bs) ss)
unfolding size
size_more b b' bs ss = omega (arith, length-append (stack (b ∷ bs)).0 (branch_records (stack (b ∷ bs)).1 b'))

-- ── where a state is held, or the one before ──
fitting_fits : (most : ℕ) (a₀ a : Area) → size a ≤ most → fitting most a₀ a ≡ a
fitting_fits most a₀ a h = ap (λ (t : Bool). elim t as (λ t. Area) [ true ↦ a | false ↦ a₀ ]) (le-leb (size a) most h)

fitting_over : (most : ℕ) (a₀ a : Area) → most < size a → fitting most a₀ a ≡ a₀
fitting_over most a₀ a h = ap (λ (t : Bool). elim t as (λ t. Area) [ true ↦ a | false ↦ a₀ ]) (lt-leb (size a) most h)

-- ── where a split stops ──
module _ (most i : ℕ) (initial rest : List Packed) (b : Stored) (bs ss : List Stored) where
  -- The pivot is out of P; the initial is put in; the rest is put in too.
  abbrev pivot_out : Area
  pivot_out = with_open (without_p i b) bs ss

  abbrev initial_in : Area
  initial_in = with_open (put_into_p initial (without_p i b)) bs ss

  abbrev rest_in : Area
  rest_in = with_open (aside i initial rest b) bs ss

  abbrev initial_fitting : Area
  initial_fitting = fitting most pivot_out initial_in

  abbrev unfinished : Area
  unfinished = unfinished_split most i initial rest b bs ss

  rest_larger : size initial_in ≤ size rest_in
  rest_larger = size_put rest (put_into_p initial (without_p i b)) bs ss

  split_larger : size rest_in ≤ size (split_area i initial rest b bs ss)
  split_larger = size_more (aside i initial rest b) (put_into_q 0 initial b) bs ss

  stopped_in : {a a₁ : Area} {r : Result (Unit {0}) Reason} {v : List Rec} → unfinished ≡ a → Leaves most a a₁ r v → Leaves most unfinished a₁ r v
  stopped_in {a₁ = a₁} {r} {v} e L = subst (λ (a : Area). Leaves most a a₁ r v) (sym e) L

  module _ {r : Result (Unit {0}) Reason} {v : List Rec} (first : Leaves most pivot_out initial_in r v) where
    pub no_initial : IsErr r → Leaves most unfinished (split_area i initial rest b bs ss) r v
    no_initial e =
        let none = leaves_over first e in
        stopped_in (fitting_over most initial_fitting rest_in (omega (arith, none, rest_larger)) ∙ fitting_over most pivot_out initial_in none)
        (larger_none first (split_area i initial rest b bs ss) e (omega (arith, rest_larger, split_larger)))

    pub no_rest : IsOk r → {r₁ : Result (Unit {0}) Reason} {v₁ : List Rec} → Leaves most initial_in rest_in r₁ v₁ → IsErr r₁
        → Leaves most unfinished (split_area i initial rest b bs ss) r₁ v₁
    no_rest e second e₁ =
        stopped_in (fitting_over most initial_fitting rest_in (leaves_over second e₁) ∙ fitting_fits most pivot_out initial_in (leaves_fits first e))
        (larger_none second (split_area i initial rest b bs ss) e₁ split_larger)

  pub stops_aside : {r : Result (Unit {0}) Reason} {v : List Rec} → Leaves most initial_in rest_in r v → IsOk r → rest_in ≡ unfinished
  stops_aside L e = sym (fitting_fits most initial_fitting rest_in (leaves_fits L e))

-- ── what is held after each call ──
-- The pivot is taken out of the records w, which become w₁.
pub record Taken (w : List (List ℕ)) (i : ℕ) (w₁ : List (List ℕ)) : Type 0 where
  pub same : length w₁ ≡ length w
  pub out : OpenBecomes (without_p i) w w₁

-- f is put into P of the records w, with the answer r; they become w₁.
pub record Put (w : List (List ℕ)) (f : List Packed) (r : Result (Unit {0}) Reason) (w₁ : List (List ℕ)) : Type 0 where
  pub same : length w₁ ≡ length w
  pub put : WhenOpen w (λ b bs ss. Leaves (used w) (with_open b bs ss) (with_open (put_into_p f b) bs ss) r (view w₁))

module _ {w w₁ : List (List ℕ)} {i : ℕ} (out : Taken w i w₁) {b : Stored} {bs ss : List Stored} (H : HeldIn w (with_open b bs ss)) where
  pub removed : HeldIn w₁ (with_open (without_p i b) bs ss)
  removed = held_by _ _ w w₁ (sym out.same) (out.out b bs ss H)

  module _ {initial : List Packed} {r : Result (Unit {0}) Reason} {w₂ : List (List ℕ)} (first : Put w₁ initial r w₂) where
    same_initial : length w₂ ≡ length w
    same_initial = first.same ∙ out.same

    pub initial_leaves : Leaves (used w) (with_open (without_p i b) bs ss) (with_open (put_into_p initial (without_p i b)) bs ss) r (view w₂)
    initial_leaves = left_by _ _ w₁ w out.same refl refl (first.put _ bs ss removed)

    module _ (e : IsOk r) where
      pub initial_put : HeldIn w₂ (with_open (put_into_p initial (without_p i b)) bs ss)
      initial_put = held_by _ _ w w₂ (sym same_initial) (initial_leaves.held e)

      module _ {rest : List Packed} {r₁ : Result (Unit {0}) Reason} {w₃ : List (List ℕ)} (second : Put w₂ rest r₁ w₃) where
        pub same_rest : length w₃ ≡ length w
        same_rest = second.same ∙ same_initial

        pub rest_leaves : Leaves (used w) (with_open (put_into_p initial (without_p i b)) bs ss) (with_open (aside i initial rest b) bs ss) r₁ (view w₃)
        rest_leaves = left_by _ _ w₂ w same_initial refl refl (second.put _ bs ss initial_put)

        pub rest_put : IsOk r₁ → HeldIn w₃ (with_open (aside i initial rest b) bs ss)
        rest_put e₁ = held_by _ _ w w₃ (sym same_rest) (rest_leaves.held e₁)
