-- The pivot and its initial as they are loaded, the rule that fits them, and what rules 4 and 5 leave to be divided.
use mathlib.Core.Path.{◌≡◌, refl, sym, ap, ap₂, subst, ◌∙◌}
use mathlib.Core.Logic.{◌≢◌}
use mathlib.Core.Bool.{Bool, true, false, ◌||◌}
use mathlib.Core.List.{List, [], ◌∷◌, map, reverse}
use Prim.Native.Nat.{ℕ, ◌+◌, ◌-◌, ◌^◌, ◌≤◌, ◌<◌}
use native.Mathlib.Omega.{arith}
use lib.ListN.{length, get_or, take, drop}
use lib.Seq.{length-take-le}
use Rattle.branches.specs.laws.Words.{each_remove}
use Rattle.residues.specs.Each.{Each}
use Rattle.residues.specs.laws.Each.{each_map, each_member}
use Rattle.polynomials.specs.Poly.{Poly}
use Rattle.polynomials.specs.Canonical.{Canonical}
use Rattle.polynomials.specs.Division.{leader, initial, degree}
use Rattle.polynomials.specs.Packed.{terms}
use Rattle.polynomials.specs.Working.{Written}
use Rattle.polynomials.specs.laws.Answers.{written_holds, written_count}
use Rattle.polynomials.specs.laws.Parts.{canonical_initial, at_leader, length_initial}
use Rattle.polynomials.specs.laws.Terms.{length_terms}
use Rattle.stored.specs.Stored.{member, Storable}
use Rattle.rules.specs.Branch as rules
use Rattle.rules.specs.Branch.{Chosen, Found, none, found, other}
use Rattle.rules.specs.Rule.{Rule, split, divide_or_close, rule_with}
use Rattle.rules.specs.Room.{Limits}
use Rattle.rules.specs.Step.{Stepped, apply, replace, after_division, remainder_by, within_room, divided, state}
use Rattle.rules.proofs.laws.Pivot.{OtherIs, other_is}
use Rattle.records.specs.Records.{Rec}
use Rattle.branches.specs.Words.{is_one}
use Rattle.branches.specs.Area.{Stored, Held, with_open, closed}
use Rattle.representation.specs.Represent.{TwoWords, Sound, AllSound, branch_of, system_of, chosen, with_new}
use Rattle.representation.specs.laws.Lists.{sound_at}
use Rattle.representation.specs.laws.Sounds.{closed_sound, sound_storable}
use Rattle.representation.specs.laws.Monics.{remove_monic}
use Rattle.representation.specs.laws.Tests.{is_one_terms, member_terms}
use Rattle.representation.specs.laws.Steps.{chosen_at}
use Rattle.representation.specs.laws.Replaced.{apply_close}
use Rattle.members.proofs.MadeLaws.{two_words}
use Rattle.pivots.specs.declared.Division.{Division}
use Rattle.pivots.specs.Aimed.{division_of, aimed}
use Rattle.representation.specs.Ready.{Ready}
use Rattle.members.specs.Members.{rest_of_step}
use Rattle.members.specs.declared.Dividends.TheVariants.{InP, InQ}
use Rattle.steps.specs.Pending.{Leads, Pivoted, Comes}
use Rattle.steps.proofs.ChoiceLaws.{at_inside}
use Rattle.polynomials.specs.declared.Term.{Term as Packed}

-- ── loading ──
-- The first n terms of t are the pivot.
pub record PivotIn (p k place : ℕ) (b : Stored) (t : List Packed) (n : ℕ) : Type 0 where
  pub inside : n ≤ length t
  pub is : take n t ≡ get_or b.P place []
  pub sound : Sound p (take n t)
  pub storable : Storable (take n t)
  pub led : leader (terms (take n t)) ≡ k + 1

pub pivot_in : (p k place : ℕ) (b : Stored) (bs ss : List Stored) (t : List Packed) (n : ℕ) → Ready p (with_open b bs ss) → Each Storable b.P → Leads k place b
    → length (get_or b.P place []) ≤ length t → (n ≡ length (get_or b.P place [])) × (take n t ≡ get_or b.P place []) → PivotIn p k place b t n
pivot_in p k place b bs ss t n R u L room e =
    let s = sound_at p place b.P R.sound.branches.0.in_p in
    record {
      inside = omega (arith, e.0, room);
      is = e.1;
      sound = subst (Sound p) (sym e.1) s;
      storable = subst Storable (sym e.1) (each_member Storable place b.P [] L.1 u);
      led = ap (λ (f : List Packed). leader (terms f)) e.1 ∙ L.2;
    }

-- What records can hold is canonical by any number above its words.
canonical_words : (p : ℕ) (s : List Packed) → Canonical p (terms s) → Each (λ t. t.coefficient < 4294967296) s → Canonical 4294967296 (terms s)
unfolding terms
canonical_words p [] c u = tt
canonical_words p (t ∷ s) c u = (c.0, u.0, c.2, canonical_words p s c.3 u.1)

-- The first m terms of i are the initial of f.
pub record InitialIn (p k : ℕ) (f i : List Packed) (m : ℕ) : Type 0 where
  pub inside : m ≤ length i
  pub is : terms (take m i) ≡ initial k (terms f)
  pub sound : Sound p (take m i)
  pub storable : Storable (take m i)

pub initial_in : (p k : ℕ) (f i : List Packed) (m : ℕ) → Sound p f → Storable f → Written (initial k (terms f)) m i
    → (Each (λ t. t.monomial < 2 ^ 64) f → Each (λ t. t.monomial < 2 ^ 64) (take m i)) → InitialIn p k f i m
initial_in p k f i m s u W words =
    let c = s.holds.canonical in
    let few : m ≤ 256 = omega (arith, written_count (initial k (terms f)) m i W, length_initial k (terms f), length_terms f, s.holds.few) in
    let in_words = canonical_initial 4294967296 k (terms f) (canonical_words p f c u.coefficients) in
    let holds = written_holds 4294967296 (initial k (terms f)) m i W few in_words in
    let small =
    two_words 4294967296 (omega arith) (take m i) holds.canonical (words (each_map TwoWords (λ t. t.monomial < 2 ^ 64) (λ t w. w.1) f s.small)) in
    record {
      inside = W.within;
      is = W.holds;
      sound = record { holds = written_holds p (initial k (terms f)) m i W few (canonical_initial p k (terms f) c); small = small };
      storable = sound_storable 4294967296 (omega arith) (take m i) record { holds = holds; small = small };
    }

-- ── the rule ──
module _ (p k i : ℕ) (b : Stored) (ini : List Packed) (s : Sound p ini) (h : AllSound p b.Q) (e : terms ini ≡ initial k (chosen b i).poly) where
  abbrev rule_by : Bool → Rule
  rule_by o = elim o [ true ↦ divide_or_close k (chosen b i) (other k i (branch_of b).P) | false ↦ split k (chosen b i) ]

  tested : (is_one ini || member ini b.Q) ≡ (rules.is_one (initial k (chosen b i).poly) || rules.member (initial k (chosen b i).poly) (map terms b.Q))
  tested =
      ap₂ ◌||◌ (is_one_terms p ini s ∙ ap rules.is_one e)
      (member_terms p ini b.Q s h ∙ ap (λ (f : Poly). rules.member f (map terms b.Q)) e)

  pub rule_found : (o : Bool) → (is_one ini || member ini b.Q) ≡ o → rule_with k (chosen b i) (branch_of b) ≡ rule_by o
  unfolding rule_with
  rule_found o q = ap rule_by (sym tested ∙ q)

-- ── rules 4 and 5 ──
ready_closed : (p i : ℕ) (b : Stored) (bs ss : List Stored) → Ready p (with_open b bs ss) → Ready p (with_open (closed i b) bs ss)
ready_closed p i b bs ss R = record {
  sound = record { branches = (closed_sound p b R.sound.branches.0 i, R.sound.branches.1); systems = R.sound.systems };
  monic = (remove_monic i b.P R.monic.0, R.monic.1);
  nonzero = (each_remove (λ f. f ≢ []) i b.P R.nonzero.0, R.nonzero.1);
  listed = R.listed;
}

module _ (l : Limits) (p k i : ℕ) (b : Stored) (bs ss : List Stored) where
  abbrev applied : Found → Stepped
  applied o = apply l p (map branch_of bs) (reverse (map system_of ss)) (divide_or_close k (chosen b i) o) (branch_of b)

  close_goes : (f : Poly) → (chosen b i).poly ≡ f → applied none ≡ rest_of_step l p (InQ (length b.Q)) (length b.Q) k f (closed i b) bs ss
  unfolding rest_of_step
  close_goes f e =
      let z : 0 ≡ length b.Q - length b.Q = omega arith in
      apply_close l p b bs ss k i
      ∙ ap (λ (f : Poly). replace l p (map branch_of bs) (reverse (map system_of ss)) k f (map terms b.Q) (with_new (closed i b) [])) e
      ∙ ap (λ (n : ℕ). replace l p (map branch_of bs) (reverse (map system_of ss)) k f (map terms (drop n b.Q)) (with_new (closed i b) (take n b.Q))) z

  divide_goes : (c : Chosen) → c ≡ chosen b c.place → (f : Poly) → (chosen b i).poly ≡ f → applied (found c) ≡ rest_of_step l p (InP c.place) 1 k f b bs ss
  unfolding rest_of_step apply
  divide_goes c q f e =
      ap (λ (f : Poly). after_division (remainder_by l p k f c.poly) (λ r. within_room l (state l p (map branch_of bs) (reverse (map system_of ss)) (divided l p c r (branch_of b))))) e
      ∙ ap (λ (g : Chosen). after_division (remainder_by l p k f g.poly) (λ r. within_room l (state l p (map branch_of bs) (reverse (map system_of ss)) (divided l p g r (branch_of b))))) q

  -- t and j hold the pivot and its initial.
  module _ (R : Ready p (with_open b bs ss)) (L : Leads k i b) (t : List Packed) (n : ℕ) (T : PivotIn p k i b t n) (j : List Packed) (m : ℕ) (I : InitialIn p k (take n t) j m)
      (v : List Rec) (most : ℕ) where
    abbrev N : ℕ
    N = length (take n t)

    abbrev D : Found → Division
    D o = division_of o k (degree k (terms (take n t))) N m b

    whole : take N t ≡ take n t
    whole = ap (λ (n : ℕ). take n t) (length-take-le n t T.inside)

    inside : N ≤ length t
    inside = omega (arith, length-take-le n t T.inside, T.inside)

    pivoted : Pivoted p k (degree k (terms (take n t))) (take N t) (take m j)
    unfolding initial
    pivoted = subst (λ (f : List Packed). Pivoted p k (degree k (terms (take n t))) f (take m j)) (sym whole) (record {
      variable = L.0;
      some = at_leader (terms (take n t)) k T.led;
      pivot = T.sound.holds;
      of_degree = refl;
      initial = I.sound.holds;
      of_initial = I.is;
    })

    same : (chosen b i).poly ≡ terms (take N t)
    same = ap terms (sym T.is ∙ sym whole)

    comes_from : (o : Found) → OtherIs k i (map terms b.P) o → Held v most (with_open (aimed o i b) bs ss) → Comes l p (applied o) (D o) t j v most (aimed o i b) bs ss
    comes_from none u H = record {
      held = H;
      ready = ready_closed p i b bs ss R;
      pivot_inside = inside;
      initial_inside = I.inside;
      pivoted = pivoted;
      has = omega arith;
      goes = close_goes (terms (take N t)) same;
    }
    comes_from (found c) u H = record {
      held = H;
      ready = R;
      pivot_inside = inside;
      initial_inside = I.inside;
      pivoted = pivoted;
      has = (omega arith, λ x. at_inside c.place c.poly b.P u.0);
      goes = divide_goes c (chosen_at b c u.0) (terms (take N t)) same;
    }

    abbrev O : Found
    O = other k i (branch_of b).P

    abbrev pub ComesBy : Rule → Division → Type 0
    ComesBy r d = Comes l p (apply l p (map branch_of bs) (reverse (map system_of ss)) r (branch_of b)) d t j v most (aimed (other k i (branch_of b).P) i b) bs ss

    pub comes : (d : Division) → d ≡ D O → Held v most (with_open (aimed O i b) bs ss)
        → rule_with k (chosen b i) (branch_of b) ≡ divide_or_close k (chosen b i) O → ComesBy (rule_with k (chosen b i) (branch_of b)) d
    comes d e H q =
        let C : ComesBy (divide_or_close k (chosen b i) O) (D O) = comes_from O (other_is k i (branch_of b).P) H in
        subst (λ (r : Rule). ComesBy r d) (sym q) (subst (ComesBy (divide_or_close k (chosen b i) O)) (sym e) C)
