-- Stored branches stay sound by what is done to them; and sound polynomials are such as records can hold.
use mathlib.Core.List.{List, [], ◌∷◌}
use Prim.Native.Nat.{ℕ, ◌≤◌, ◌<◌}
use native.Mathlib.Omega.{arith}
use Rattle.residues.specs.Each.{Each}
use Rattle.branches.specs.laws.Words.{each_remove}
use Rattle.polynomials.specs.Canonical.{Canonical}
use Rattle.polynomials.specs.Packed.{terms}
use Rattle.stored.specs.Stored.{Storable}
use Rattle.branches.specs.Area.{Stored, empty, put_into_p, put_into_q, without_p, without_q, closed, aside, split_area}
use Rattle.branches.specs.Words.{put_p, remove}
use Rattle.representation.specs.Represent.{Sound, BranchSound, BranchesSound, AreaSound}
use Rattle.representation.specs.laws.Lists.{each_put_p, each_put_q_before, sound_at}
use Rattle.polynomials.specs.declared.Term.{Term as Packed}

module _ (p : ℕ) where
  -- ── a branch ──
  pub empty_sound : BranchSound p empty
  empty_sound = record { in_p = tt; in_q = tt; in_t = tt }

  module _ (b : Stored) (h : BranchSound p b) where
    pub put_into_p_sound : (f : List Packed) → Sound p f → BranchSound p (put_into_p f b)
    put_into_p_sound f k = record { in_p = each_put_p (Sound p) f b.P k h.in_p; in_q = h.in_q; in_t = h.in_t }

    pub put_into_q_sound : (left : ℕ) (f : List Packed) → Sound p f → BranchSound p (put_into_q left f b)
    put_into_q_sound left f k = record { in_p = h.in_p; in_q = each_put_q_before (Sound p) left f b.Q k h.in_q; in_t = h.in_t }

    pub without_p_sound : (i : ℕ) → BranchSound p (without_p i b)
    without_p_sound i = record { in_p = each_remove (Sound p) i b.P h.in_p; in_q = h.in_q; in_t = h.in_t }

    pub without_q_sound : (i : ℕ) → BranchSound p (without_q i b)
    without_q_sound i = record { in_p = h.in_p; in_q = each_remove (Sound p) i b.Q h.in_q; in_t = h.in_t }

    pub closed_sound : (i : ℕ) → BranchSound p (closed i b)
    closed_sound i = record { in_p = each_remove (Sound p) i b.P h.in_p; in_q = h.in_q; in_t = (sound_at p i b.P h.in_p, h.in_t) }

    aside_sound : (i : ℕ) (ini rst : List Packed) → Sound p ini → Sound p rst → BranchSound p (aside i ini rst b)
    aside_sound i ini rst k m = record {
      in_p = each_put_p (Sound p) rst (put_p ini (remove i b.P)) m (each_put_p (Sound p) ini (remove i b.P) k (each_remove (Sound p) i b.P h.in_p));
      in_q = h.in_q;
      in_t = h.in_t;
    }

    pub split_area_sound : (i : ℕ) (ini rst : List Packed) → Sound p ini → Sound p rst → (bs ss : List Stored) → BranchesSound p bs → BranchesSound p ss →
        AreaSound p (split_area i ini rst b bs ss)
    split_area_sound i ini rst k m bs ss w u = record { branches = (put_into_q_sound 0 ini k, (aside_sound i ini rst k m, w)); systems = u }

-- ── records can hold them ──
module _ (p : ℕ) (word : p ≤ 4294967296) where
  coefficients_below : (s : List Packed) → Canonical p (terms s) → Each (λ t. t.coefficient < 4294967296) s
  unfolding terms
  coefficients_below [] c = tt
  coefficients_below (t ∷ s) c = (omega (arith, c.1), coefficients_below s c.3)

  pub sound_storable : (s : List Packed) → Sound p s → Storable s
  sound_storable s h = record { few = h.holds.few; coefficients = coefficients_below s h.holds.canonical }
