-- The first branch of a table: P's chain put into an empty branch, then Q's.
use Rattle.std.specs.Prelude.{◌≡◌, refl, Bool, true, false, not, List, [], ◌∷◌, ℕ, suc, ◌+◌, ◌-◌, ◌≤◌, ◌<◌, leb, length, take, Result, Ok, Err, IsOk, IsErr}
use Rattle.std.proofs.Common.{sym, ◌∙◌, ap, subst, arith}
use Rattle.std.proofs.lemmas.Bool.{false≢true}
use borrow.Author.Tests.{lt-ltb, lt-leb, leb-false}
use lib.Seq.{take_all}
use Rattle.polynomials.specs.Bounds.{at_most, over}
use Rattle.polynomials.specs.Poly.{Poly}
use Rattle.tables.specs.Words.{word, records}
use Rattle.tables.specs.Read.{Input, good, read_heads}
use Rattle.tables.specs.declared.Reason.{Reason}
use Rattle.tables.specs.declared.Reason.TheVariants.{Room}
use Rattle.words.specs.declared.Table.{Table}
use Rattle.words.proofs.Accepted.{ChainsRead}
use Rattle.rules.specs.Branch.{Branch}
use Rattle.rules.specs.Room.{State, branch_size, branches_size, systems_size, live}
use Rattle.rules.specs.Step.{Stepped, next, stopped, within_room}
use Rattle.rules.specs.Run.{first_branch, start, first_state}
use Rattle.rules.specs.Eliminate.{room_of, limits_of}
use Rattle.records.specs.Records.{Rec, capacity}
use Rattle.branches.specs.Area.{Held, fitted, with_open, empty}
use Rattle.branches.specs.laws.Fitted.{lacks_room, for_room}
use Rattle.representation.specs.laws.Sounds.{empty_sound}
use Rattle.representation.specs.laws.Sizes.{room_of_count}
use Rattle.representation.specs.Ready.{limits_in}
use Rattle.loading.specs.declared.Target.{Target}
use Rattle.loading.specs.declared.Target.TheVariants.{P, Q}
use Rattle.loading.specs.Started.{put_heads, Alone, Filled, first_put, Started}
use Rattle.loading.proofs.FillLaws.{size_put_heads, put_heads_none}

-- ── the branch ──
abbrev pub no_polynomial : Branch
no_polynomial = record { P = []; Q = []; T = [] }

pub alone_empty : {p most : ℕ} {v : List Rec} → Held v most (with_open empty [] []) → Alone p most no_polynomial v
alone_empty {p = p} h = record { stored = empty; held = h; sound = empty_sound p; monic = tt; nonzero = tt; is = refl }

-- There are as many records as there were at entry.
module _ {p m most : ℕ} (same : m ≡ most) where
  pub alone_in : {c : Branch} {v : List Rec} → Alone p most c v → Alone p m c v
  alone_in {c = c} {v} = subst (λ (n : ℕ). Alone p n c v) (sym same)

  pub filled_in : {target : Target} {fs : List Poly} {c : Branch} {r : Result (Unit {0}) Reason} {u v : List Rec} → (Alone p m c u → Filled p m target fs c r v)
      → Alone p most c u → Filled p most target fs c r v
  filled_in {target = target} {fs} {c} {r} {u} {v} = subst (λ (n : ℕ). Alone p n c u → Filled p n target fs c r v) same

-- With P's chain put.
abbrev pub with_zeros : ℕ → Input → Branch
with_zeros p t = put_heads P p t.P no_polynomial

-- P's chain put into the empty branch u, from the index that the header holds.
pub zeros_put : {table : Table} {t : Input} {m most first : ℕ} {r : Result (Unit {0}) Reason} {u v : List Rec} → m ≡ most → ChainsRead table t → Held u most (with_open empty [] [])
    → first ≡ word table.words.now 0 2
    → ((fs : List Poly) (c : Branch) → read_heads table.words.now table.modulus table.variables (records table.words.now) 0 first ≡ good fs
    → Alone table.modulus m c u → Filled table.modulus m P fs c r v)
    → Filled table.modulus most P t.P no_polynomial r v
zeros_put {t = t} same told held first fills = filled_in same (fills t.P no_polynomial (rw first told.zeros)) (alone_empty held)

module _ (t : Input) where
  first_is : put_heads Q t.modulus t.Q (with_zeros t.modulus t) ≡ first_branch t
  unfolding first_branch
  first_is = refl

  first_put_of_p : (k : ℕ) → k ≤ length t.P → put_heads P t.modulus (take k t.P) no_polynomial ≡ first_put t k
  unfolding first_branch
  first_put_of_p k h =
      let b = put_heads P t.modulus (take k t.P) no_polynomial in
      let none : 0 ≡ k - length t.P = omega (arith, h) in
      sym (put_heads_none Q t.modulus b) ∙ ap (λ (j : ℕ). put_heads Q t.modulus (take j t.Q) b) none

  first_put_of_q : (k j : ℕ) → k ≡ length t.P + j → put_heads Q t.modulus (take j t.Q) (with_zeros t.modulus t) ≡ first_put t k
  unfolding first_branch
  first_put_of_q k j e =
      let behind : j ≡ k - length t.P = omega (arith, e) in
      let all : t.P ≡ take k t.P = sym (take_all k t.P (omega (arith, e))) in
      λ i. put_heads Q t.modulus (take (behind i) t.Q) (put_heads P t.modulus (all i) no_polynomial)

-- ── the start ──
abbrev decided : Bool → State → Stepped
decided b s = elim b as (λ b. Stepped) [ true ↦ stopped Room | false ↦ next s ]

live_first : (t : Input) → live (first_state t) ≡ branch_size (first_branch t)
unfolding live branches_size systems_size
live_first t = omega arith

module _ (t : Input) (most : ℕ) (v : List Rec) where
  start_is : start (limits_in most) t ≡ decided (over (at_most (most - 1)) (live (first_state t))) (first_state t)
  unfolding start within_room
  start_is = refl

  by_test : (r : Result (Unit {0}) Reason) (b : Bool) → over (at_most (most - 1)) (live (first_state t)) ≡ b → Started t (decided b (first_state t)) most r v → Started t (start (limits_in most) t) most r v
  by_test r b e x = subst (λ (s : Stepped). Started t s most r v) (sym (start_is ∙ ap (λ (q : Bool). decided q (first_state t)) e)) x

  -- Not even the branch's own record fits.
  pub start_none : most < 2 → Started t (start (limits_in most) t) most (Err Room) v
  unfolding over branch_size
  start_none h =
      by_test (Err Room) true (lt-ltb (most - 1) (live (first_state t)) (omega (arith, live_first t))) (refl, refl, λ two. absurd (omega (arith, two, h)))

  started : (r : Result (Unit {0}) Reason) → 2 ≤ most → r ≡ fitted (leb (1 + branch_size (first_branch t)) most) → (IsOk r → Alone t.modulus most (first_branch t) v)
      → (IsErr r → (k : ℕ) × (most < 1 + branch_size (first_put t (suc k))) × Alone t.modulus most (first_put t k) v) → Started t (start (limits_in most) t) most r v
  started r two room alone otherwise = go (over (at_most (most - 1)) (live (first_state t))) refl
    where
      answer : r ≡ fitted (not (over (at_most (most - 1)) (live (first_state t))))
      answer =
          room
          ∙ ap fitted (room_of_count most (live (first_state t)) (1 + branch_size (first_branch t)) (omega (arith, two)) (ap (λ (n : ℕ). 1 + n) (sym (live_first t))))

      go : (b : Bool) → over (at_most (most - 1)) (live (first_state t)) ≡ b → Started t (start (limits_in most) t) most r v
      go true e =
          let no : r ≡ Err Room = answer ∙ ap (λ (q : Bool). fitted (not q)) e in by_test r true e (no, refl, λ two. otherwise (subst IsErr (sym no) refl))
      go false e =
          let yes : r ≡ Ok tt = answer ∙ ap (λ (q : Bool). fitted (not q)) e in
          let a = alone (subst IsOk (sym yes) refl) in
          by_test r false e (
            yes,
            two,
            (
              with_open a.stored [] [],
              a.held,
              record { sound = record { branches = (a.sound, tt); systems = tt }; monic = (a.monic, tt); nonzero = (a.nonzero, tt); listed = tt },
              (λ i. record { branches = a.is i ∷ []; systems = [] }),
            ),
          )

  -- The branch c of the first k polynomials is alone, and there is no room for d, that of one more.
  stopped_at : (k : ℕ) {c d : Branch} → c ≡ first_put t k → d ≡ first_put t (suc k) → most < 1 + branch_size d → Alone t.modulus most c v
      → (k : ℕ) × (most < 1 + branch_size (first_put t (suc k))) × Alone t.modulus most (first_put t k) v
  stopped_at k e f none x =
      (k, subst (λ (b : Branch). most < 1 + branch_size b) f none, subst (λ (b : Branch). Alone t.modulus most b v) e x)

  module _ (p : ℕ) (modulus : t.modulus ≡ p) (two : 2 ≤ most) where
    -- P's chain finds no room.
    pub start_fails : (r : Result (Unit {0}) Reason) → IsErr r → Filled p most P t.P no_polynomial r v → Started t (start (limits_in most) t) most r v
    start_fails r lack filled =
        let x = subst (λ (n : ℕ). Filled n most P t.P no_polynomial r v) (sym modulus) filled in
        let b = with_zeros t.modulus t in
        let more : branch_size b ≤ branch_size (first_branch t) =
        subst (λ (c : Branch). branch_size b ≤ branch_size c) (first_is t) (size_put_heads Q t.modulus t.Q b) in
        let none : most < 1 + branch_size b = leb-false (1 + branch_size b) most (lacks_room x.answer lack) in
        let still_none = lt-leb (1 + branch_size (first_branch t)) most (omega (arith, more, none)) in
        started r two (for_room _ x.answer lack ∙ ap fitted (sym still_none)) (λ e. absurd (false≢true (subst IsOk (for_room _ x.answer lack) e)))
        (λ e. let o = x.otherwise e in stopped_at o.0 (first_put_of_p t o.0 (omega (arith, o.1))) (first_put_of_p t (suc o.0) (omega (arith, o.1))) o.2 o.3)

    -- Both chains are put.
    pub start_put : (r : Result (Unit {0}) Reason) → Filled p most Q t.Q (with_zeros p t) r v → Started t (start (limits_in most) t) most r v
    start_put r filled =
        let x = subst (λ (n : ℕ). Filled n most Q t.Q (with_zeros n t) r v) (sym modulus) filled in
        let whole = first_is t in
        started r two (subst (λ (c : Branch). r ≡ fitted (leb (1 + branch_size c) most)) whole x.answer)
        (λ e. subst (λ (c : Branch). Alone t.modulus most c v) whole (x.alone e))
        (λ e.
        let o = x.otherwise e in
        let k = length t.P + o.0 in
        stopped_at k (first_put_of_q t k o.0 refl) (first_put_of_q t (suc k) (suc o.0) (omega arith)) o.2 o.3)

-- The limits of a call with these words as its work area.
pub limits_are : (w : List ℕ) → limits_of (length w) ≡ limits_in (capacity w)
unfolding limits_of room_of
limits_are w = refl
