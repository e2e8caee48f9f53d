-- Where a table can hold every polynomial of the input, it can hold every polynomial of the systems that a run lists.
use Rattle.std.proofs.Math.Path.{◌≡◌, refl, subst}
use Rattle.std.proofs.Common.{sym, arith}
use Rattle.std.specs.Prelude.{◌≢◌, Bool, leb, length, get_or}
use mathlib.Core.List.{List, [], ◌∷◌}
use Rattle.std.proofs.Math.Bool.{true, false}
use Prim.Native.Nat.{ℕ, zero, suc, ◌-◌, ◌≤◌}
use Rattle.residues.specs.Each.{Each}
use Rattle.residues.specs.Prime.{Prime}
use Rattle.residues.specs.Residue.{inverse}
use Rattle.residues.specs.laws.Residues.{one≤}
use Rattle.polynomials.specs.Poly.{Exponents, Poly, join, add_multiple, difference, product, monic}
use Rattle.polynomials.specs.Canonical.{Canonical, All}
use Rattle.polynomials.specs.Division.{degree, leader, coefficient, initial, rest, factor}
use Rattle.polynomials.specs.Bounds.{Bounds, at_most, standard, Bounded, within, degree_passed, and_then, degrees_over, tested, bounded_product, bounded_difference, bounded_round, bounded_remainder}
use Rattle.polynomials.specs.laws.All.{all_add_multiple}
use Rattle.polynomials.specs.laws.Degree.{all_degree, degree_product, degree_at_most}
use Rattle.polynomials.specs.laws.Bounds.{degrees_over_none}
use Rattle.polynomials.specs.laws.Bounded.{formed_first, tested_formed, over_at_most}
use Rattle.polynomials.specs.laws.Product.{add_multiple_length}
use Rattle.polynomials.specs.laws.Free.{Free, free_monic, free_remainder}
use Rattle.polynomials.specs.laws.Parts.{leader_at_most, length_initial, length_rest, degree_initial_le, degree_rest_le, free_initial, free_rest}
use Rattle.tables.specs.Read.{System, Input}
use Rattle.rules.specs.Room.{Limits}
use Rattle.rules.specs.Step.{remainder_by}
use Rattle.rules.specs.Run.{finished, run_of}
use Rattle.tables.specs.Admissible.{Admissible}
use Rattle.rules.proofs.laws.Taken.{remainder_by_is}
use Rattle.rules.proofs.laws.Kept.{Closed, OfSystem, canonical_closed, listed_keep}
use Rattle.rules.proofs.laws.Rising.{places_closed}

-- ── at most 256 terms, no exponent over 255 ──
abbrev Low : Poly → Type 0
Low f = (k : ℕ) → degree k f ≤ 255

abbrev Small : Poly → Type 0
Small f = (length f ≤ 256) × Low f

length_monic : (p : ℕ) (f : Poly) → length (monic p f) ≤ length f
unfolding monic
length_monic p [] = omega arith
length_monic p (t ∷ f) = omega (arith, add_multiple_length p (inverse p t.coef) [] (t ∷ f) [])

-- A multiple by a number adds no higher power.
degree_multiple : (k m p c : ℕ) (g f : Poly) → degree k g ≤ m → degree k f ≤ m → degree k (add_multiple p c [] g f) ≤ m
unfolding join
degree_multiple k m p c g f u v =
    degree_at_most k m (add_multiple p c [] g f)
    (all_add_multiple (λ e. get_or e k 0 ≤ m) (λ e. get_or e k 0 ≤ m) p c [] g f (λ (e : Exponents) (h : get_or e k 0 ≤ m). h) (all_degree k m g u) (all_degree k m f v))

low_monic : (p : ℕ) (f : Poly) → Low f → Low (monic p f)
unfolding monic degree
low_monic p [] u k = omega arith
low_monic p (t ∷ f) u k = degree_multiple k 255 p (inverse p t.coef) (t ∷ f) [] (u k) (omega arith)

low_difference : (p : ℕ) (f g : Poly) → Low f → Low g → Low (difference p f g)
unfolding difference
low_difference p f g u v k = degree_multiple k 255 p (p - 1) g f (v k) (u k)

-- ── what is formed within the standard bounds is small ──
module _ (p : ℕ) where
  low_product : (f g h : Poly) → bounded_product standard p f g ≡ within h → Low h
  unfolding bounded_product degree
  low_product [] g h e = let s : [] ≡ h = cc in subst Low s (λ (k : ℕ). omega arith)
  low_product (t ∷ f) [] h e = let s : [] ≡ h = cc in subst Low s (λ (k : ℕ). omega arith)
  low_product (t ∷ f) (u ∷ g) h e = go (degrees_over (at_most 255) (t ∷ f) (u ∷ g)) refl e
    where
      go : (b : Bool) → degrees_over (at_most 255) (t ∷ f) (u ∷ g) ≡ b →
          (elim b as (λ b. Bounded) [ true ↦ degree_passed | false ↦ tested standard (product p (t ∷ f) (u ∷ g)) ]) ≡ within h → Low h
      go true q e = let z : ◌≡◌ {A = ℕ} 0 1 = cc in absurd (omega arith)
      go false q e = subst Low (sym (tested_formed standard (product p (t ∷ f) (u ∷ g)) h e).same)
          (λ (k : ℕ). omega (arith, degree_product k p (t ∷ f) (u ∷ g), degrees_over_none 255 (t ∷ f) (u ∷ g) q k))

  small_round : (k d : ℕ) (G R h : Poly) → bounded_round standard p k d G R ≡ within h → Small h
  unfolding bounded_round bounded_difference
  small_round k d G R h e =
      let first = formed_first (bounded_product standard p (coefficient k d G) R) _ h e in
      let second = formed_first (bounded_product standard p (factor k d R) G) _ h first.2 in
      let formed = tested_formed standard (difference p first.0 second.0) h second.2 in (
        over_at_most 256 (length h) formed.few,
        subst Low (sym formed.same)
            (low_difference p first.0 second.0 (low_product (coefficient k d G) R first.0 first.1) (low_product (factor k d R) G second.0 second.1)),
      )

  small_remainder : (k d : ℕ) (G : Poly) (n : ℕ) (R h : Poly) → Small R → bounded_remainder standard p k d G n R ≡ within h → Small h
  unfolding bounded_remainder
  small_remainder k d G zero R h u e = let s : R ≡ h = cc in subst Small s u
  small_remainder k d G (suc n) R h u e = go (leb d (degree k R)) (small_remainder k d G n) e
    where
      go : (b : Bool) → ((R h : Poly) → Small R → bounded_remainder standard p k d G n R ≡ within h → Small h) →
          (elim b as (λ b. Bounded) [ true ↦ and_then (bounded_round standard p k d G R) (bounded_remainder standard p k d G n) | false ↦ within R ]) ≡ within h → Small h
      go true ih e =
          let r = formed_first (bounded_round standard p k d G R) (bounded_remainder standard p k d G n) h e in
          ih r.0 h (small_round k d G R r.0 r.1) r.2
      go false ih e = let s : R ≡ h = cc in subst Small s u

small_closed : (l : Limits) (p : ℕ) → l.bounds ≡ standard → Closed l p Small
unfolding remainder_by
small_closed l p s = record {
  of_monic = λ f u. (omega (arith, length_monic p f, u.0), low_monic p f u.1);
  of_initial = λ k f u. (omega (arith, length_initial k f, u.0), λ (j : ℕ). omega (arith, degree_initial_le j k f, u.1 j));
  of_rest = λ k f u. (omega (arith, length_rest k f, u.0), λ (j : ℕ). omega (arith, degree_rest_le j k f, u.1 j));
  of_remainder = λ k f g r q u v e. small_remainder p k (degree k f) f (suc (degree k g)) g r v
      (subst (λ (b : Bounds). bounded_remainder b p k (degree k f) f (suc (degree k g)) g ≡ within r) s e);
}

-- ── no variable above vn ──
abbrev Absent : ℕ → Poly → Type 0
Absent n f = (k : ℕ) → n ≤ k → Free k f

absent_closed : (l : Limits) (p n : ℕ) → 1 ≤ n → Closed l p (Absent n)
absent_closed l p n h = record {
  of_monic = λ f u j a. free_monic j p f (u j a);
  of_initial = λ k f u j a. free_initial j k f (u j a);
  of_rest = λ k f u j a. free_rest j k f (u j a);
  of_remainder = λ k f g r q u v e j a. subst (Free j) (remainder_by_is l p k f g r e)
      (free_remainder j p k (degree k f) f (apart k f j q (leader_at_most f n u) a) (u j a) (suc (degree k g)) g (v j a));
}
  where
    apart : (k : ℕ) (f : Poly) (j : ℕ) → leader f - 1 ≡ k → leader f ≤ n → n ≤ j → j ≢ k
    apart k f j q m a e = omega arith

-- ── the run ──
module _ (l : Limits) (p n : ℕ) (prime : Prime p) (some_variable : 1 ≤ n) (s : l.bounds ≡ standard) where
  abbrev AllFour : Poly → Type 0
  AllFour f = Canonical p f × Small f × All (λ e. length e ≡ 8) f × Absent n f

  parts : (f : Poly) → Admissible p n f → AllFour f
  parts f a = (a.canonical, (a.few, λ (k : ℕ). degree_at_most k 255 f (a.small k)), a.places, a.absent)

  whole : (f : Poly) → AllFour f → Admissible p n f
  whole f u = record { canonical = u.0; few = u.1.0; places = u.2; small = λ k. all_degree k 255 f (u.1.1 k); absent = u.3 }

  -- Together, the parts are kept.
  admissible_closed : Closed l p (Admissible p n)
  admissible_closed =
      let c = canonical_closed l p (one≤ prime) in
      let d = small_closed l p s in
      let e = places_closed l p in
      let a = absent_closed l p n some_variable in
      record {
        of_monic = λ f h. let u = parts f h in whole (monic p f) (c.of_monic f u.0, d.of_monic f u.1, e.of_monic f u.2, a.of_monic f u.3);
        of_initial = λ k f h. let u = parts f h in whole (initial k f) (c.of_initial k f u.0, d.of_initial k f u.1, e.of_initial k f u.2, a.of_initial k f u.3);
        of_rest = λ k f h. let u = parts f h in whole (rest k f) (c.of_rest k f u.0, d.of_rest k f u.1, e.of_rest k f u.2, a.of_rest k f u.3);
        of_remainder = λ k f g r q hf hg w. let u = parts f hf in let v = parts g hg in whole r (
          c.of_remainder k f g r q u.0 v.0 w,
          d.of_remainder k f g r q u.1 v.1 w,
          e.of_remainder k f g r q u.2 v.2 w,
          a.of_remainder k f g r q u.3 v.3 w,
        );
      }

pub admissible_run : (l : Limits) (limit : ℕ) (t : Input) → l.bounds ≡ standard → Prime t.modulus → 1 ≤ t.variables →
    Each (Admissible t.modulus t.variables) t.P → Each (Admissible t.modulus t.variables) t.Q →
    (n : ℕ) (ss : List System) → run_of l limit t ≡ finished n ss → Each (OfSystem (Admissible t.modulus t.variables)) ss
admissible_run l limit t s prime h P Q n ss e =
    listed_keep l t (Admissible t.modulus t.variables) (admissible_closed l t.modulus t.variables prime h s) P Q limit n ss e
