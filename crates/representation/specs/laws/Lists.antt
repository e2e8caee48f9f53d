-- Putting into the lists of a stored branch and taking out of them is what the rules do to the lists of polynomials; and what holds of each
-- stored polynomial still does.
use Rattle.std.specs.Prelude.{◌≡◌, refl, ◌≢◌, List, [], ◌∷◌, ◌++◌, map, Bool, true, false, ℕ, zero, suc, ◌-◌, get_or, take, drop}
use Rattle.std.proofs.Common.{◌∙◌, ap₂}
use Rattle.std.proofs.Math.Path.{ap}
use Rattle.std.proofs.lemmas.List.{map-append}
use Rattle.std.proofs.Math.Bool.{◌||◌}
use native.Mathlib.Omega.{arith}
use Rattle.std.proofs.Math.ListN.{length}
use Rattle.residues.specs.Each.{Each}
use Rattle.residues.specs.laws.Each.{each_append, each_take, each_drop}
use Rattle.polynomials.specs.Poly.{Poly, monic}
use Rattle.polynomials.specs.Packed.{terms}
use Rattle.stored.specs.Stored.{member}
use Rattle.rules.specs.Branch as rules
use Rattle.branches.specs.laws.Words.{put_q_before_in_parts}
use Rattle.branches.specs.Words.{is_zero, is_one, unless, put_p, put_q, put_q_before, remove}
use Rattle.representation.specs.Represent.{Sound, AllSound}
use Rattle.representation.specs.laws.Tests.{is_zero_terms, is_one_terms, member_terms}
use Rattle.polynomials.specs.declared.Term.{Term as Packed}

pub map_remove : (i : ℕ) (fs : List (List Packed)) → map terms (remove i fs) ≡ rules.remove i (map terms fs)
unfolding remove rules.remove
map_remove i [] = refl
map_remove zero (f ∷ fs) = refl
map_remove (suc i) (f ∷ fs) = ap (λ gs. terms f ∷ gs) (map_remove i fs)

map_unless : (b : Bool) (f : List Packed) (fs : List (List Packed)) → map terms (unless b f fs) ≡ rules.unless_dropped b (terms f) (map terms fs)
map_unless true f fs = refl
map_unless false f fs = map-append terms fs (f ∷ [])

-- The packed terms f are the monic polynomial of g.
module _ (p : ℕ) (f : List Packed) (g : Poly) (h : Sound p f) (e : terms f ≡ monic p g) where
  pub map_put_p : (fs : List (List Packed)) → AllSound p fs → map terms (put_p f fs) ≡ rules.put_p p g (map terms fs)
  unfolding put_p rules.put_p
  map_put_p fs hs =
      map_unless (is_zero f || member f fs) f fs
      ∙ ap (λ b. rules.unless_dropped b (terms f) (map terms fs)) (ap₂ ◌||◌ (is_zero_terms p f h) (member_terms p f fs h hs))
      ∙ ap (λ (q : Poly). rules.unless_dropped (rules.is_zero q || rules.member q (map terms fs)) q (map terms fs)) e

  pub map_put_q : (fs : List (List Packed)) → AllSound p fs → map terms (put_q f fs) ≡ rules.put_q p g (map terms fs)
  unfolding put_q rules.put_q
  map_put_q fs hs =
      map_unless (is_one f || member f fs) f fs
      ∙ ap (λ b. rules.unless_dropped b (terms f) (map terms fs)) (ap₂ ◌||◌ (is_one_terms p f h) (member_terms p f fs h hs))
      ∙ ap (λ (q : Poly). rules.unless_dropped (rules.is_one q || rules.member q (map terms fs)) q (map terms fs)) e

pub map_put_q_before : (p : ℕ) (f : List Packed) (g : Poly) → Sound p f → terms f ≡ monic p g → (left : ℕ) (new old : List (List Packed)) → length old ≡ left →
    AllSound p new → map terms (put_q_before left f (new ++ old)) ≡ rules.put_q p g (map terms new) ++ map terms old
map_put_q_before p f g h e left new old q hs =
    ap (map terms) (put_q_before_in_parts left f new old q) ∙ map-append terms (put_q f new) old ∙ ap (λ fs. fs ++ map terms old) (map_put_q p f g h e new hs)

-- ── what holds of each member ──
module _ (G : List Packed → Type 0) where
  each_unless : (b : Bool) (f : List Packed) (fs : List (List Packed)) → G f → Each G fs → Each G (unless b f fs)
  each_unless true f fs h hs = hs
  each_unless false f fs h hs = (each_append G fs (f ∷ [])).1 (hs, (h, tt))

  pub each_put_p : (f : List Packed) (fs : List (List Packed)) → G f → Each G fs → Each G (put_p f fs)
  unfolding put_p
  each_put_p f fs = each_unless (is_zero f || member f fs) f fs

  each_put_q : (f : List Packed) (fs : List (List Packed)) → G f → Each G fs → Each G (put_q f fs)
  unfolding put_q
  each_put_q f fs = each_unless (is_one f || member f fs) f fs

  pub each_put_q_before : (left : ℕ) (f : List Packed) (fs : List (List Packed)) → G f → Each G fs → Each G (put_q_before left f fs)
  unfolding put_q_before
  each_put_q_before left f fs h hs =
      let n = length fs - left in
      (each_append G (put_q f (take n fs)) (drop n fs)).1 (each_put_q f (take n fs) h (each_take G n fs hs), each_drop G n fs hs)

  -- Also past the end, where zero stands.
  pub each_at : (i : ℕ) (fs : List (List Packed)) → G [] → Each G fs → G (get_or fs i [])
  each_at i [] z hs = z
  each_at zero (f ∷ fs) z hs = hs.0
  each_at (suc i) (f ∷ fs) z hs = each_at i fs z hs.1

-- Zero is not put.
pub put_p_nonzero : (f : List Packed) (fs : List (List Packed)) → Each (λ g. g ≢ []) fs → Each (λ g. g ≢ []) (put_p f fs)
unfolding put_p is_zero
put_p_nonzero [] fs h = h
put_p_nonzero (x ∷ f) fs h = each_put_p (λ g. g ≢ []) (x ∷ f) fs (λ e. let z : ◌≡◌ {A = ℕ} 0 1 = cc in omega arith) h

-- ── soundness is kept ──
module _ (p : ℕ) where
  zero_sound : Sound p []
  unfolding terms
  zero_sound = record { holds = record { few = omega arith; canonical = tt }; small = tt }

  pub sound_at : (i : ℕ) (fs : List (List Packed)) → AllSound p fs → Sound p (get_or fs i [])
  sound_at i fs hs = each_at (Sound p) i fs zero_sound hs
