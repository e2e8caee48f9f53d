-- The pivot and its initial are loaded, and the rule is found by the initial.
use Rattle.std.specs.Prelude.{◌≡◌, List, [], Bool, true, false, ◌||◌, ℕ, ◌^◌, ◌<◌, length, get_or, take}
use Rattle.std.proofs.lemmas.Result.{err_from_is_err_and}
use Rattle.std.proofs.Common.{refl, sym, ap, ◌∙◌, arith, length-take-le}
use Rattle.residues.specs.Each.{Each}
use Rattle.residues.specs.laws.Each.{each_member}
use Rattle.polynomials.specs.Division.{initial, rest}
use Rattle.polynomials.specs.Poly.{monic}
use Rattle.polynomials.specs.Packed.{terms}
use Rattle.polynomials.specs.Working.{Written}
use Rattle.polynomials.specs.declared.Term.{Term as Packed}
use Rattle.polynomials.specs.laws.Bounds.{or_false_both}
use Rattle.rules.specs.Branch.{other}
use Rattle.rules.specs.Rule.{Rule, split, divide_or_close, rule_with}
use Rattle.stored.specs.Stored.{member, Storable}
use Rattle.branches.specs.Words.{is_one}
use Rattle.branches.specs.Area.{Stored, with_open, HeldIn, used}
use Rattle.branches.proofs.Unique.{of_every}
use Rattle.heads.specs.Heads.{AllHold}
use Rattle.representation.specs.Represent.{branch_of, chosen}
use Rattle.representation.specs.Ready.{Ready, limits_in}
use Rattle.steps.specs.Pending.{Leads}
use Rattle.steps.proofs.PrepareLaws.{all_hold}
use Rattle.steps.proofs.PivotLaws.{PivotIn, pivot_in, InitialIn, initial_in, rule_found, comes}
use Rattle.steps.proofs.SplitLaws.{split_next, split_stop}
use Rattle.steps.proofs.with_pivot.Goals.{After-load-n}
use Rattle.steps.proofs.with_pivot.Goals as goal

-- The pivot as it was loaded.
module _ (c : After-load-n) where
  abbrev pivot : List Packed
  pivot = take c.load-n.result c.load-n.new.out

  abbrev Held : Stored → List Stored → List Stored → Type 0
  Held b bs ss = HeldIn c.args.w.now (with_open b bs ss)

  loaded : (b : Stored) (bs ss : List Stored) → Held b bs ss → Ready c.args.p (with_open b bs ss) → Leads c.args.k c.args.place b
      → PivotIn c.args.p c.args.k c.args.place b c.load-n.new.out c.load-n.result
  loaded b bs ss H R L =
      let l = c.load-n.ensures b bs ss H in
      pivot_in c.args.p c.args.k c.args.place b bs ss c.load-n.new.out c.load-n.result R H.storable.0.0.0 L
      (omega (arith, c.count_terms.ensures b bs ss H, c.if-t-count_terms.false, c.load-n.auto.out)) (l.0, l.1)

  -- In the branch of which the contract speaks.
  some : PivotIn c.args.p c.args.k c.args.place c.requires.ready.0 c.load-n.new.out c.load-n.result
  some = let o = c.requires.ready in loaded o.0 o.1 o.2 o.3 o.4 o.5

  long : c.load-n.result ≡ length pivot
  long = sym (length-take-le c.load-n.result c.load-n.new.out some.inside)

  -- It stands in every branch that is held.
  stands : (b : Stored) (bs ss : List Stored) → Held b bs ss → (c.args.place < length b.P) × (get_or b.P c.args.place [] ≡ pivot)
  stands =
      let o = c.requires.ready in
      of_every (λ P Q. (c.args.place < length P) × (get_or P c.args.place [] ≡ pivot)) o.3 (o.5.1, sym some.is)

  -- Its initial, in the first m terms of i.
  formed : (m : ℕ) (i : List Packed) → Written (initial c.args.k (terms pivot)) m i
      → (Each (λ t. t.monomial < 2 ^ 64) pivot → Each (λ t. t.monomial < 2 ^ 64) (take m i)) → InitialIn c.args.p c.args.k pivot i m
  formed m i W words = initial_in c.args.p c.args.k pivot i m some.sound some.storable W words

  -- The rule, in any branch that is held.
  module _ {m : ℕ} {i : List Packed} (I : InitialIn c.args.p c.args.k pivot i m) (b : Stored) (bs ss : List Stored) (H : Held b bs ss)
      (R : Ready c.args.p (with_open b bs ss)) (L : Leads c.args.k c.args.place b) where
    of_chosen : terms (take m i) ≡ initial c.args.k (terms (get_or b.P c.args.place []))
    of_chosen = I.is ∙ ap (λ (f : List Packed). initial c.args.k (terms f)) (loaded b bs ss H R L).is

    rest_of : monic c.args.p (rest c.args.k (terms pivot)) ≡ monic c.args.p (rest c.args.k (terms (get_or b.P c.args.place [])))
    rest_of = ap (λ (f : List Packed). monic c.args.p (rest c.args.k (terms f))) (loaded b bs ss H R L).is

    rule : (o : Bool) → o ≡ (is_one (take m i) || member (take m i) b.Q)
        → rule_with c.args.k (chosen b c.args.place) (branch_of b) ≡ elim o as (λ o. Rule) [
          | true ↦ divide_or_close c.args.k (chosen b c.args.place) (other c.args.k c.args.place (branch_of b).P)
          | false ↦ split c.args.k (chosen b c.args.place)
        ]
    rule o e = rule_found c.args.p c.args.k c.args.place b (take m i) I.sound R.sound.branches.0.in_q of_chosen o (sym e)

pub count_terms-requires-clause-when_open : goal.count_terms-requires-clause-when_open
count_terms-requires-clause-when_open c =
    let o = c.requires.ready in
    of_every (λ P Q. c.args.place < length P) o.3 o.5.1

pub returns-then-t-count_terms-clause-when_open : goal.returns-then-t-count_terms-clause-when_open
returns-then-t-count_terms-clause-when_open c b bs ss H R L = (
  b,
  record {
    held = H;
    k = c.args.k;
    place = c.args.place;
    leads = L;
    goes = refl;
    longer = omega (arith, c.if-t-count_terms.true, c.count_terms.ensures b bs ss H);
  },
)

pub returns-then-t-count_terms-clause-when_crowded : goal.returns-then-t-count_terms-clause-when_crowded
returns-then-t-count_terms-clause-when_crowded c e =
    let o = c.requires.ready in
    let few = (each_member Storable c.args.place o.0.P [] o.5.1 o.3.storable.0.0.0).few in
    (omega (arith, c.if-t-count_terms.true, c.count_terms.ensures o.0 o.1 o.2 o.3, few), refl)

pub load-n-requires-clause-when_open : goal.load-n-requires-clause-when_open
load-n-requires-clause-when_open c =
    let o = c.requires.ready in
    of_every (λ P Q. c.args.place < length P) o.3 o.5.1

pub load-n-requires-clause-in_bounds : goal.load-n-requires-clause-in_bounds
load-n-requires-clause-in_bounds c b bs ss H = omega (arith, c.count_terms.ensures b bs ss H, c.if-t-count_terms.false)

pub slice_bounds-initial-end : goal.slice_bounds-initial-end
slice_bounds-initial-end c = (some (goal.at.slice_bounds-initial-end c).After-load-n).inside

pub slice_bounds-initial-end-2 : goal.slice_bounds-initial-end-2
slice_bounds-initial-end-2 c = long (goal.at.slice_bounds-initial-end-2 c).After-load-n

pub initial-m-requires-clause-canonical : goal.initial-m-requires-clause-canonical
initial-m-requires-clause-canonical c =
    let s = some (goal.at.initial-m-requires-clause-canonical c).After-load-n in
    ((c.args.p, s.sound.holds.canonical), s.led)

pub is_settled-requires-clause-storable : goal.is_settled-requires-clause-storable
is_settled-requires-clause-storable c =
    let z = (goal.at.is_settled-requires-clause-storable c).After-load-n in
    (formed z _ _ c.initial-m.ensures.written c.initial-m.ensures.in_words).storable

pub slice_bounds-prepare_division-end : goal.slice_bounds-prepare_division-end
slice_bounds-prepare_division-end c = (some (goal.at.slice_bounds-prepare_division-end c).After-load-n).inside

pub slice_bounds-prepare_division-end-then-is_settled : goal.slice_bounds-prepare_division-end-then-is_settled
slice_bounds-prepare_division-end-then-is_settled c = long (goal.at.slice_bounds-prepare_division-end-then-is_settled c).After-load-n

pub prepare_division-d-requires-clause-opened : goal.prepare_division-d-requires-clause-opened
prepare_division-d-requires-clause-opened c =
    let z = (goal.at.prepare_division-d-requires-clause-opened c).After-load-n in
    let o = c.requires.ready in
    ((o.0, o.1, o.2, o.3), (some z).storable)

pub prepare_division-d-requires-clause-when_open : goal.prepare_division-d-requires-clause-when_open
prepare_division-d-requires-clause-when_open c =
    let o = c.requires.ready in
    of_every (λ P Q. (p : ℕ) × AllHold p P) o.3 (c.args.p, all_hold c.args.p o.0.P o.4.sound.branches.0.in_p)

pub prepare_division-d-requires-clause-when_open_2 : goal.prepare_division-d-requires-clause-when_open_2
prepare_division-d-requires-clause-when_open_2 c = stands (goal.at.prepare_division-d-requires-clause-when_open_2 c).After-load-n

pub returns-then-is_settled-clause-when_open : goal.returns-then-is_settled-clause-when_open
returns-then-is_settled-clause-when_open c b bs ss H R L =
    let z = (goal.at.returns-then-is_settled-clause-when_open c).After-load-n in
    let a = c.args in
    let I = formed z _ _ c.initial-m.ensures.written c.initial-m.ensures.in_words in
    let e = c.prepare_division-d.ensures.when_open_3 b bs ss H in (
      _,
      comes (limits_in (used a.w.now)) a.p a.k a.place b bs ss R L c.load-n.new.out c.load-n.result (loaded z b bs ss H R L)
          c.initial-m.new.out c.initial-m.result I _ _ _ e.0 e.1 (rule z I b bs ss H R L true (c.if-is_settled.ensures b bs ss H)),
    )

pub slice_bounds-apply_split-end : goal.slice_bounds-apply_split-end
slice_bounds-apply_split-end c = (some (goal.at.slice_bounds-apply_split-end c).After-load-n).inside

pub slice_bounds-apply_split-end-2 : goal.slice_bounds-apply_split-end-2
slice_bounds-apply_split-end-2 c = long (goal.at.slice_bounds-apply_split-end-2 c).After-load-n

pub apply_split-requires-clause-sound : goal.apply_split-requires-clause-sound
apply_split-requires-clause-sound c = let s = some (goal.at.apply_split-requires-clause-sound c).After-load-n in (s.sound, s.led)

pub apply_split-requires-clause-sound_2 : goal.apply_split-requires-clause-sound_2
apply_split-requires-clause-sound_2 c =
    let z = (goal.at.apply_split-requires-clause-sound_2 c).After-load-n in
    let I = formed z _ _ c.initial-m.ensures.written c.initial-m.ensures.in_words in
    (I.sound, I.is)

-- The branch is not settled: the initial is not 1, and not in Q.
pub apply_split-requires-clause-when_open : goal.apply_split-requires-clause-when_open
apply_split-requires-clause-when_open c b bs ss H =
    let z = (goal.at.apply_split-requires-clause-when_open c).After-load-n in
    let s = stands z b bs ss H in
    let ini = take c.initial-m.result c.initial-m.new.out in
    let q = or_false_both (is_one ini) (member ini b.Q) (sym (c.if-is_settled.ensures b bs ss H)) in
    (s.0, s.1, q.0, q.1)

pub returns-in_err-apply_split-clause-when_open : goal.returns-in_err-apply_split-clause-when_open
returns-in_err-apply_split-clause-when_open c b bs ss H R L =
    let z = (goal.at.returns-in_err-apply_split-clause-when_open c).After-load-n in
    let a = c.args in
    let I = formed z _ _ c.initial-m.ensures.written c.initial-m.ensures.in_words in
    let e = c.in_err-apply_split.ensures in
    let q = err_from_is_err_and c.from_residual.result c.from_residual.ensures.1 in
    rw (q.1, q.2)
    (split_stop a.p a.k a.place c.requires.prime b bs ss R L (take c.initial-m.result c.initial-m.new.out) _ I.sound (of_chosen z I b bs ss H R L)
    e.sound_3.0 (e.sound_3.1 ∙ rest_of z I b bs ss H R L) _ _ H _ _ (e.when_open_2 b bs ss H)
    (rule z I b bs ss H R L false (c.if-is_settled.ensures b bs ss H)) _ refl)

pub returns-clause-when_open : goal.returns-clause-when_open
returns-clause-when_open c b bs ss H R L =
    let z = (goal.at.returns-clause-when_open c).After-load-n in
    let a = c.args in
    let I = formed z _ _ c.initial-m.ensures.written c.initial-m.ensures.in_words in
    let e = c.in_ok-apply_split.ensures in
    split_next a.p a.k a.place c.requires.prime b bs ss R L (take c.initial-m.result c.initial-m.new.out) _ I.sound (of_chosen z I b bs ss H R L)
    e.sound_3.0 (e.sound_3.1 ∙ rest_of z I b bs ss H R L) _ _ H _ _ (e.when_open_2 b bs ss H)
    (rule z I b bs ss H R L false (c.if-is_settled.ensures b bs ss H)) refl
