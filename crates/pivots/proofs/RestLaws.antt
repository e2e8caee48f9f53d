-- The rest of a polynomial stands behind the terms of its initial.
use mathlib.Core.Path.{◌≡◌, refl, sym, ap, subst, ◌∙◌}
use mathlib.Core.Logic.{◌≢◌}
use mathlib.Core.Bool.{Bool, true, false}
use mathlib.Core.List.{List, [], ◌∷◌}
use Prim.Native.Nat.{ℕ, ◌+◌, ◌-◌, ◌≤◌, ◌<◌}
use native.Mathlib.Omega.{arith}
use lib.Dec.{eqb}
use borrow.Author.Tests.{eqb-true, eqb-false}
use lib.ListN.{length, get_or, take, drop, length-drop}
use lib.Seq.{take_at, drop_at}
use Rattle.std.proofs.Common.{◌++◌, length-append}
use Rattle.polynomials.specs.Poly.{Poly}
use Rattle.polynomials.specs.Canonical.{Canonical, All}
use Rattle.polynomials.specs.Division.{degree, leader, initial, rest, coefficient, without}
use Rattle.polynomials.specs.Packed.{terms}
use Rattle.polynomials.specs.Working.{Holds}
use Rattle.polynomials.specs.laws.Degree.{all_degree}
use Rattle.polynomials.specs.laws.Free.{Free}
use Rattle.polynomials.specs.laws.All.{all_map}
use Rattle.polynomials.specs.laws.Places.{Places, places_terms}
use Rattle.polynomials.specs.laws.Parts.{canonical_rest, length_initial, above_leader, falling, coefficient_of, coefficient_none, without_of, without_none}
use Rattle.polynomials.specs.laws.Terms.{length_terms, terms_drop}
use Rattle.polynomials.specs.declared.Term.{Term as Packed}

module _ (p k d : ℕ) where
  abbrev Behind : Poly → Type 0
  Behind f = drop (length (coefficient k d f)) f ≡ without k d f

  -- The terms of the highest power come first.
  behind : (f : Poly) → Canonical p f → Places 8 f → ((j : ℕ) → k < j → Free j f) → All (λ e. get_or e k 0 ≤ d) f → Behind f
  unfolding coefficient without
  behind [] c u h m = refl
  behind (t ∷ f) c u h m = go (behind f c.3 u.1 (λ j l. (h j l).1) m.1) (eqb (get_or t.exps k 0) d) refl
    where
      go : Behind f → (o : Bool) → eqb (get_or t.exps k 0) d ≡ o → Behind (t ∷ f)
      go ih true e =
          let q = eqb-true (get_or t.exps k 0) d e in
          let s = ap length (coefficient_of k d t f q) in
          ap (λ (n : ℕ). drop n (t ∷ f)) s ∙ ih ∙ sym (without_of k d t f q)
      go ih false e =
          let q : get_or t.exps k 0 ≢ d = eqb-false (get_or t.exps k 0) d e in
          let low = falling p k 8 t f c u h in
          let a : All (λ e. get_or e k 0 ≢ d) (t ∷ f) = all_map (λ e. get_or e k 0 ≤ get_or t.exps k 0) (λ e. get_or e k 0 ≢ d) (t ∷ f) (λ e l z. q (omega (arith, m.0))) low in
          let s = ap length (coefficient_none k d (t ∷ f) a) in
          ap (λ (n : ℕ). drop n (t ∷ f)) s ∙ sym (without_none k d (t ∷ f) a)

behind_initial : (p k : ℕ) (f : Poly) → Canonical p f → Places 8 f → leader f ≡ k + 1 → Behind p k (degree k f) f
behind_initial p k f c u led =
    behind p k (degree k f) f c u (λ j l. above_leader f j (omega (arith, led))) (all_degree k (degree k f) f (omega arith))

-- The first n terms of y are the rest of t, and those behind are still r's.
pub record RestIn (p k : ℕ) (t r y : List Packed) (n : ℕ) : Type 0 where
  pub inside : n ≤ length y
  pub is : terms (take n y) ≡ rest k (terms t)
  pub holds : Holds p (take n y)
  pub behind : drop n y ≡ drop n r

-- t is led by v(k+1), and i is its initial.
module _ (p k : ℕ) (t i : List Packed) (c : Canonical p (terms t)) (led : leader (terms t) ≡ k + 1) (e : terms i ≡ initial k (terms t)) where
  both : Behind p k (degree k (terms t)) (terms t)
  both = behind_initial p k (terms t) c (places_terms t) led

  long : length i ≡ length (coefficient k (degree k (terms t)) (terms t))
  unfolding initial
  long = sym (length_terms i) ∙ ap length e

  pub initial_inside : length i ≤ length t
  initial_inside = omega (arith, length_terms i, ap length e, length_initial k (terms t), length_terms t)

  rest_behind : terms (drop (length i) t) ≡ rest k (terms t)
  unfolding rest
  rest_behind = terms_drop (length i) t ∙ ap (λ (n : ℕ). drop n (terms t)) long ∙ both

  -- The terms behind the initial's, s, were copied to the first of r.
  module _ (few : length t ≤ 256) (r s : List Packed) (room : 256 ≤ length r) (copied : s ≡ drop (length i) t) where
    abbrev n : ℕ
    n = length t - length i

    size : length s ≡ n
    size = ap length copied ∙ length-drop (length i) t

    first : take n (s ++ drop n r) ≡ drop (length i) t
    first = take_at s (drop n r) n size ∙ copied

    is_rest : terms (take n (s ++ drop n r)) ≡ rest k (terms t)
    is_rest = ap terms first ∙ rest_behind

    pub rest_in : RestIn p k t r (s ++ drop n r) n
    rest_in = record {
      inside = omega (arith, size, length-append s (drop n r));
      is = is_rest;
      holds = record {
        few = omega (arith, ap length first, length-drop (length i) t, few);
        canonical = subst (Canonical p) (sym is_rest) (canonical_rest p k (terms t) c);
      };
      behind = drop_at s (drop n r) n size;
    }
