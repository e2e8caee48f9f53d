-- Each coefficient times c, term by term; and the monic polynomial so made.
use Rattle.std.specs.Prelude.{◌≡◌, refl, List, [], ◌∷◌, ◌++◌, map, ℕ, ◌+◌, ◌-◌, ◌*◌, ◌%◌, ◌^◌, ◌≤◌, ◌<◌, length, take, drop, get_or, Some, None, slice_get}
use Rattle.std.proofs.Common.{sym, ◌∙◌, ap, ap₂, subst, arith, append-nil, add-one}
use Rattle.std.proofs.Math.Seq.{take-suc}
use Rattle.residues.specs.Each.{Each}
use Rattle.residues.specs.laws.Each.{each_append}
use Rattle.std.proofs.lemmas.List.{take_all, drop_all, length-map, length-take-le, get_or-append_right, get_or-drop}
use Rattle.residues.specs.Prime.{Prime}
use Rattle.residues.specs.Residue.{inverse}
use Rattle.polynomials.specs.Poly.{monic}
use Rattle.polynomials.specs.Canonical.{Canonical}
use Rattle.polynomials.specs.Packed.{term, terms}
use Rattle.polynomials.specs.declared.Term.{Term as Packed}
use Rattle.polynomials.specs.laws.Merge.{scaled, monic_scaled}

abbrev pub scale : ℕ → ℕ → Packed → Packed
scale p c t = record { coefficient = c * t.coefficient % p; monomial = t.monomial }

terms_scaled : (p c : ℕ) (s : List Packed) → terms (map (scale p c) s) ≡ scaled p c (terms s)
unfolding terms scaled
terms_scaled p c [] = refl
terms_scaled p c (t ∷ s) = ap (λ s. term (scale p c t) ∷ s) (terms_scaled p c s)

-- ── a loop that scales each term ──
module _ (p c : ℕ) (f₀ f : List Packed) (i : ℕ) (so_far : f ≡ map (scale p c) (take i f₀) ++ drop i f₀) where
  -- A term is not yet scaled where the loop meets it.
  pub next_unscaled : (t : Packed) → i < length f₀ → get_or f i t ≡ get_or f₀ i t
  next_unscaled t inside =
      let front : length (map (scale p c) (take i f₀)) ≡ i = length-map (take i f₀) (scale p c) ∙ length-take-le i f₀ (omega arith) in
      let here : i + (i - i) ≡ i = omega arith in
      ap (λ s. get_or s i t) so_far ∙ get_or-append_right (map (scale p c) (take i f₀)) (drop i f₀) i i t front (omega arith) ∙ get_or-drop i f₀ (i - i) t
      ∙ ap (λ k. get_or f₀ k t) here

  pub all_scaled : length f₀ ≤ i → terms f ≡ scaled p c (terms f₀)
  all_scaled end =
      ap terms (so_far ∙ ap₂ (λ a b. map (scale p c) a ++ b) (take_all i f₀ end) (drop_all i f₀ end) ∙ append-nil (map (scale p c) f₀)) ∙ terms_scaled p c f₀

-- ── monomials ──
abbrev pub InWord : Packed → Type 0
InWord t = t.monomial < 2 ^ 64

pub each_of_none : (P : Packed → Type 0) (f : List Packed) → slice_get f 0 ≡ None → Each P f
each_of_none P [] h = tt
each_of_none P (t ∷ f) h = cc

pub more_in_words : (f : List Packed) (i : ℕ) (t : Packed) → i < length f → (get_or f i t).monomial < 2 ^ 64 → Each InWord (take i f) → Each InWord (take (i + 1) f)
more_in_words f i t inside h u = subst (Each InWord) (sym (rw add-one (take-suc f i t inside))) ((each_append InWord (take i f) (get_or f i t ∷ [])).1 (u, (h, tt)))

scaled_in_words : (p c : ℕ) (f : List Packed) → Each InWord f → Each InWord (map (scale p c) f)
scaled_in_words p c [] u = tt
scaled_in_words p c (t ∷ f) u = (u.0, scaled_in_words p c f u.1)

pub all_in_words : (p c : ℕ) (f₀ f : List Packed) (i : ℕ) → f ≡ map (scale p c) (take i f₀) ++ drop i f₀ → length f₀ ≤ i → Each InWord (take i f₀) → Each InWord f
all_in_words p c f₀ f i so_far end u =
    let all : f ≡ map (scale p c) (take i f₀) = so_far ∙ ap (λ s. map (scale p c) (take i f₀) ++ s) (drop_all i f₀ end) ∙ append-nil (map (scale p c) (take i f₀)) in
    subst (Each InWord) (sym all) (scaled_in_words p c (take i f₀) u)

-- ── the first term ──
pub monic_none : (p : ℕ) (f : List Packed) → slice_get f 0 ≡ None → terms f ≡ monic p (terms f)
unfolding terms monic
monic_none p [] h = refl
monic_none p (t ∷ f) h = cc

-- It is a residue other than 0, and the polynomial is scaled by its inverse.
pub record Leads (p : ℕ) (f : List Packed) (t : Packed) : Type 0 where
  pub nonzero : 1 ≤ t.coefficient
  pub residue : t.coefficient < p
  pub scales : scaled p (inverse p t.coefficient) (terms f) ≡ monic p (terms f)

pub leads : (p : ℕ) (f : List Packed) (t : Packed) → Prime p → Canonical p (terms f) → slice_get f 0 ≡ Some t → Leads p f t
unfolding terms
leads p [] t P n h = cc
leads p (u ∷ f) t P n h =
    let same : u ≡ t = cc in
    subst (Leads p (u ∷ f)) same record { nonzero = n.0; residue = n.1; scales = sym (monic_scaled p (term u) (terms f) P n) }
