-- A polynomial in the first terms of a slice, made monic in place.
use Rattle.std.specs.Prelude.{◌≡◌, List, [], ◌∷◌, ◌++◌, ℕ, ◌^◌, ◌≤◌, ◌<◌, length, take, drop}
use Rattle.std.proofs.Common.{sym, ap, subst, ◌∙◌, arith, length-append, length-take-le, take_at}
use Rattle.std.proofs.Math.Seq.{drop_at}
use Rattle.residues.specs.Each.{Each}
use Rattle.residues.specs.Prime.{Prime}
use Rattle.polynomials.specs.Poly.{monic}
use Rattle.polynomials.specs.Canonical.{Canonical}
use Rattle.polynomials.specs.Packed.{terms}
use Rattle.polynomials.specs.Working.{Holds}
use Rattle.polynomials.specs.laws.Canonical.{canonical_monic}
use Rattle.polynomials.specs.declared.Term.{Term as Packed}
use Rattle.stored.specs.Stored.{Storable}
use Rattle.representation.specs.Represent.{TwoWords, Sound}
use Rattle.representation.specs.laws.Sounds.{sound_storable}

-- A residue is a word, and so are a term's two where its monomial is.
pub two_words : (p : ℕ) → p ≤ 2 ^ 64 → (s : List Packed) → Canonical p (terms s) → Each (λ t. t.monomial < 2 ^ 64) s → Each TwoWords s
unfolding terms
two_words p below [] c words = tt
two_words p below (t ∷ s) c words = ((omega (arith, c.1, below), words.0), two_words p below s c.3 words.1)

-- The first n terms of r were made monic: m stands in their place.
pub record Made (p n : ℕ) (r m : List Packed) : Type 0 where
  pub prime : Prime p
  pub below : p < 2147483648
  pub within : n ≤ length r
  pub holds : Holds p (take n r)
  pub kept : length m ≡ length (take n r)
  pub is : terms m ≡ monic p (terms (take n r))
  pub words : Each (λ t. t.monomial < 2 ^ 64) m

pub made_by : (p n : ℕ) (r m : List Packed) → Prime p → p < 2147483648 → (n ≤ length r) × Holds p (take n r) → length m ≡ length (take n r)
    → terms m ≡ monic p (terms (take n r)) → Each (λ t. t.monomial < 2 ^ 64) m → Made p n r m
made_by p n r m prime below q kept is words = record { prime = prime; below = below; within = q.0; holds = q.1; kept = kept; is = is; words = words }

module _ {p n : ℕ} {r m : List Packed} (M : Made p n r m) where
  long : length m ≡ n
  long = M.kept ∙ length-take-le n r M.within

  made : take n (m ++ drop n r) ≡ m
  made = take_at m (drop n r) n long

  pub made_behind : drop n (m ++ drop n r) ≡ drop n r
  made_behind = drop_at m (drop n r) n long

  pub made_within : n ≤ length (m ++ drop n r)
  made_within = omega (arith, long, length-append m (drop n r))

  pub made_monic : terms (take n (m ++ drop n r)) ≡ monic p (terms (take n r))
  made_monic = ap terms made ∙ M.is

  pub made_sound : Sound p (take n (m ++ drop n r))
  made_sound =
      let canonical : Canonical p (terms m) =
      subst (Canonical p) (sym M.is) (canonical_monic p (terms (take n r)) (omega (arith, M.prime.two≤))) in
      let holds : Holds p m = record { few = omega (arith, M.kept, M.holds.few); canonical = canonical } in
      subst (Sound p) (sym made) record { holds = holds; small = two_words p (omega (arith, M.below)) m canonical M.words }

  pub made_storable : Storable (take n (m ++ drop n r))
  made_storable = sound_storable p (omega (arith, M.below)) (take n (m ++ drop n r)) made_sound
