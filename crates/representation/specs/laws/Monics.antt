-- Monic polynomials: a monic polynomial is its own monic, the initial of one is monic, and all that was put is.
use Rattle.std.specs.Prelude.{◌≡◌, refl, ℕ, ◌+◌, ◌*◌, ◌%◌, ◌≤◌, ◌<◌, get_or}
use Rattle.std.proofs.Common.{sym, ◌∙◌, ap, ap₂, mod-eq_of_lt, mul_comm, arith}
use Rattle.std.proofs.Math.Path.{subst}
use mathlib.Core.List.{List, [], ◌∷◌}
use Rattle.branches.specs.laws.Words.{each_remove}
use Rattle.residues.specs.Prime.{Prime}
use Rattle.residues.specs.Residue.{inverse, inverse_from}
use Rattle.residues.specs.laws.Inverse.{inverse_ok}
use Rattle.polynomials.specs.Poly.{Poly, add_multiple, monic}
use Rattle.polynomials.specs.Canonical.{Canonical}
use Rattle.polynomials.specs.Packed.{terms}
use Rattle.polynomials.specs.Division.{leader, initial, coefficient}
use Rattle.polynomials.specs.laws.Merge.{scaled, multiple_scaled, monic_scaled}
use Rattle.polynomials.specs.laws.Places.{Places, places_terms}
use Rattle.polynomials.specs.laws.Parts.{canonical_initial, initial_first}
use Rattle.branches.specs.Words.{put_p, remove}
use Rattle.representation.specs.Represent.{Monic, AllMonic, Sound}
use Rattle.representation.specs.laws.Lists.{each_put_p, each_at}
use Rattle.polynomials.specs.declared.Term.{Term as Packed}

inverse_one : (p : ℕ) → inverse p 1 ≡ 1
unfolding inverse inverse_from
inverse_one p = refl

one_times : (p a : ℕ) → a < p → 1 * a % p ≡ a
one_times p a h = let e : 1 * a ≡ a = omega arith in ap (λ z. z % p) e ∙ mod-eq_of_lt h

scaled_one : (p : ℕ) (f : Poly) → Canonical p f → scaled p 1 f ≡ f
unfolding scaled
scaled_one p [] c = refl
scaled_one p (t ∷ f) c =
    let same : 1 * t.coef % p ≡ t.coef = one_times p t.coef c.1 in ap₂ ◌∷◌ (λ i. record { coef = same i; exps = t.exps }) (scaled_one p f c.3)

monic_own : (p : ℕ) (f : Poly) → Canonical p f → Monic f → monic p f ≡ f
unfolding monic
monic_own p [] c m = refl
monic_own p (t ∷ f) c m =
    ap (λ (i : ℕ). add_multiple p i [] (t ∷ f) []) (ap (inverse p) m ∙ inverse_one p)
    ∙ multiple_scaled p 1 (t ∷ f) (λ (a : ℕ) (h : 1 ≤ a) (k : a < p) (z : 1 * a % p ≡ 0). omega (arith, one_times p a k)) c
    ∙ scaled_one p (t ∷ f) c

monic_monic : (p : ℕ) (f : Poly) → Prime p → Canonical p f → Monic (monic p f)
unfolding scaled monic
monic_monic p [] prime c = tt
monic_monic p (t ∷ f) prime c =
    subst Monic (sym (monic_scaled p t f prime c)) (ap (λ z. z % p) (mul_comm (inverse p t.coef) t.coef) ∙ inverse_ok p t.coef prime c.0 c.1)

-- The initial begins with the first term, its power of the leading variable taken out.
module _ (p k n : ℕ) (f : Poly) (c : Canonical p f) (u : Places n f) (led : leader f ≡ k + 1) (m : Monic f) where
  pub initial_monic : Monic (initial k f)
  unfolding initial coefficient
  initial_monic = go f c u led m
    where
      go : (f : Poly) → Canonical p f → Places n f → leader f ≡ k + 1 → Monic f → Monic (initial k f)
      go [] c u led m = tt
      go (t ∷ f) c u led m = subst Monic (sym (initial_first p k n t f c u led)) m

  initial_own : monic p (initial k f) ≡ initial k f
  initial_own = monic_own p (initial k f) (canonical_initial p k f c) initial_monic

-- ── stored polynomials ──
pub stored_initial_own : (p k : ℕ) (s : List Packed) → Sound p s → leader (terms s) ≡ k + 1 → Monic (terms s) → monic p (initial k (terms s)) ≡ initial k (terms s)
stored_initial_own p k s h led m = initial_own p k 8 (terms s) h.holds.canonical (places_terms s) led m

pub stored_monic : (p : ℕ) (s : List Packed) (f : Poly) → Prime p → Canonical p f → terms s ≡ monic p f → Monic (terms s)
stored_monic p s f prime c e = subst Monic (sym e) (monic_monic p f prime c)

pub remove_monic : (i : ℕ) (fs : List (List Packed)) → AllMonic fs → AllMonic (remove i fs)
remove_monic i fs ms = each_remove (λ f. Monic (terms f)) i fs ms

pub put_p_monic : (f : List Packed) (fs : List (List Packed)) → Monic (terms f) → AllMonic fs → AllMonic (put_p f fs)
put_p_monic f fs m ms = each_put_p (λ f. Monic (terms f)) f fs m ms

pub monic_at : (i : ℕ) (fs : List (List Packed)) → AllMonic fs → Monic (terms (get_or fs i []))
unfolding terms
monic_at i fs ms = each_at (λ f. Monic (terms f)) i fs tt ms
