-- Putting a polynomial into P or Q says of a point what the polynomial says; and what holds of all that is put holds of the list.
use Rattle.std.specs.Prelude.{◌≡◌, ◌↔◌, ◌⊎◌, Bool, ◌||◌, ℕ, eqb}
use Rattle.std.proofs.Math.Path.{refl, ap₂, subst}
use Rattle.std.proofs.Common.{sym, ◌∙◌, ap, eqb→eq}
use Rattle.std.proofs.Math.Logic.{inl, inr}
use mathlib.Core.List.{List, [], ◌∷◌}
use Rattle.std.proofs.Math.Bool.{true, false}
use Rattle.std.proofs.Math.Dec.{T}
use Rattle.residues.specs.Each.{Each}
use Rattle.residues.specs.laws.Each.{each_append}
use Rattle.residues.specs.Prime.{Prime}
use Rattle.residues.specs.Field.{Field, Contains, cast, pow}
use Rattle.residues.specs.laws.Booleans.{and_l, and_r, or_cases, true_of}
use Rattle.residues.specs.laws.Ring.{add_nil, mul_one, cast_one}
use Rattle.polynomials.specs.Poly.{Exponents, Poly, monic, equal}
use Rattle.polynomials.specs.Canonical.{Canonical}
use Rattle.polynomials.specs.Value.{value, weigh, monomial_value}
use Rattle.polynomials.specs.laws.Division.{monic_zero}
use Rattle.polynomials.specs.laws.Equal.{equal_eq}
use Rattle.rules.specs.Branch.{member, is_zero, all_zeros, is_one, unless_dropped, put_p, put_q, put_all, some_one, some_zero}
use Rattle.rules.specs.Solutions.{Zero, NonZero}

module _ {ℓ} (G : Poly → Type ℓ) where
  pub each_of_member : (f : Poly) (fs : List Poly) → T (member f fs) → Each G fs → G f
  unfolding member
  each_of_member f [] t e = absurd t
  each_of_member f (g ∷ gs) t e =
      elim (or_cases (equal f g) (member f gs) t) [
        | inl q ↦ subst G (sym (equal_eq f g (sym (true_of (equal f g) q)))) e.0
        | inr m ↦ each_of_member f gs m e.1
      ]

  -- Of the list with f put it holds as of f and the list, if it holds anyway of an f that is dropped.
  each_unless_dropped : (b : Bool) (f : Poly) (fs : List Poly) → (T b → Each G fs → G f) → Each G (unless_dropped b f fs) ↔ (G f × Each G fs)
  each_unless_dropped true f fs h = ((λ e. (h tt e, e)), (λ e. e.1))
  each_unless_dropped false f fs h = ((λ e. let s = (each_append G fs (f ∷ [])).0 e in (s.1.0, s.0)), (λ e. (each_append G fs (f ∷ [])).1 (e.1, (e.0, tt))))

  -- ── what holds of the monic polynomials that are put holds of all ──
  unless_dropped_keeps : (b : Bool) (f : Poly) (fs : List Poly) → (T b ⊎ G f) → Each G fs → Each G (unless_dropped b f fs)
  unless_dropped_keeps true f fs h e = e
  unless_dropped_keeps false f fs h e = (each_append G fs (f ∷ [])).1 (e, (elim h [ inl t ↦ absurd t | inr g ↦ g ], tt))

  module _ (p : ℕ) where
    -- In P a zero polynomial is dropped.
    pub put_p_keeps : (f : Poly) (fs : List Poly) → T (is_zero (monic p f)) ⊎ G (monic p f) → Each G fs → Each G (put_p p f fs)
    unfolding put_p
    put_p_keeps f fs h e =
        unless_dropped_keeps (is_zero (monic p f) || member (monic p f) fs) (monic p f) fs
        (elim h [ inl z ↦ inl (or_l (is_zero (monic p f)) _ z) | inr g ↦ inr g ]) e
      where
        or_l : (a b : Bool) → T a → T (a || b)
        or_l true b t = tt
        or_l false b t = absurd t

    pub put_q_keeps : (f : Poly) (fs : List Poly) → G (monic p f) → Each G fs → Each G (put_q p f fs)
    unfolding put_q
    put_q_keeps f fs h e = unless_dropped_keeps (is_one (monic p f) || member (monic p f) fs) (monic p f) fs (inr h) e

  -- H holds of what is put, one after the other.
  pub put_all_keeps {ℓ'} : (H : Poly → Type ℓ') (put : Poly → List Poly → List Poly) → ((f : Poly) (fs : List Poly) → H f → Each G fs → Each G (put f fs)) →
      (fs out : List Poly) → Each H fs → Each G out → Each G (put_all put fs out)
  unfolding put_all
  put_all_keeps H put h [] out e u = u
  put_all_keeps H put h (f ∷ fs) out e u = put_all_keeps H put h fs (put f out) e.1 (h f out e.0 u)

-- ── what is put, at a point ──
module _ {ℓ} {K : Type ℓ} (F : Field K) (x : List K) where
  zero_is_zero : (f : Poly) → T (is_zero f) → Zero F x f
  unfolding is_zero weigh
  zero_is_zero [] t = refl
  zero_is_zero (u ∷ f) t = absurd t

  monomial_is_one : (y : List K) (e : Exponents) → T (all_zeros e) → monomial_value F.ring y e ≡ F.ring.one
  unfolding monomial_value all_zeros pow
  monomial_is_one [] e t = refl
  monomial_is_one (z ∷ y) [] t = refl
  monomial_is_one (z ∷ y) (n ∷ e) t =
      ap₂ F.ring.mul (ap (pow F.ring z) (eqb→eq n 0 (and_l (eqb n 0) _ t))) (monomial_is_one y e (and_r (eqb n 0) _ t)) ∙ mul_one F.ring F.ring.one

  pub one_is_nonzero : (f : Poly) → T (is_one f) → NonZero F x f
  unfolding is_one weigh
  one_is_nonzero [] t = absurd t
  one_is_nonzero (u ∷ []) t = λ z. F.one≢nil (sym is_1 ∙ z)
    where
      is_1 : value F.ring (u ∷ []) x ≡ F.ring.one
      is_1 =
          add_nil F.ring _
          ∙ ap₂ F.ring.mul (ap (cast F.ring) (eqb→eq u.coef 1 (and_l (eqb u.coef 1) _ t)) ∙ cast_one F.ring)
          (monomial_is_one x u.exps (and_r (eqb u.coef 1) _ t))
          ∙ mul_one F.ring F.ring.one
  one_is_nonzero (u ∷ (v ∷ f)) t = absurd t

  -- Rule 1: where P holds 1, or Q holds 0, no point solves the branch.
  pub some_one_refutes : (fs : List Poly) → T (some_one fs) → Each (Zero F x) fs → ⊥
  unfolding some_one
  some_one_refutes [] t e = t
  some_one_refutes (f ∷ fs) t e = elim (or_cases (is_one f) (some_one fs) t) [ inl o ↦ one_is_nonzero f o e.0 | inr o ↦ some_one_refutes fs o e.1 ]

  pub some_zero_refutes : (fs : List Poly) → T (some_zero fs) → Each (NonZero F x) fs → ⊥
  unfolding some_zero
  some_zero_refutes [] t e = t
  some_zero_refutes (f ∷ fs) t e = elim (or_cases (is_zero f) (some_zero fs) t) [ inl o ↦ e.0 (zero_is_zero f o) | inr o ↦ some_zero_refutes fs o e.1 ]

  module _ (p : ℕ) (prime : Prime p) (char : Contains F p) where
    monic_keeps_zeros : (f : Poly) → Canonical p f → Zero F x (monic p f) ↔ Zero F x f
    unfolding monic
    monic_keeps_zeros [] c = ((λ e. e), (λ e. e))
    monic_keeps_zeros (t ∷ f) c = monic_zero F p prime char x t f c.0 c.1

    pub put_p_zero : (f : Poly) (fs : List Poly) → Canonical p f → Each (Zero F x) (put_p p f fs) ↔ (Zero F x f × Each (Zero F x) fs)
    unfolding put_p
    put_p_zero f fs c =
        let u = each_unless_dropped (Zero F x) (is_zero (monic p f) || member (monic p f) fs) (monic p f) fs
        (λ t e. elim (or_cases (is_zero (monic p f)) _ t) [ inl z ↦ zero_is_zero (monic p f) z | inr m ↦ each_of_member (Zero F x) (monic p f) fs m e ]) in
        ((λ e. ((monic_keeps_zeros f c).0 (u.0 e).0, (u.0 e).1)), (λ e. u.1 ((monic_keeps_zeros f c).1 e.0, e.1)))

    pub put_q_nonzero : (f : Poly) (fs : List Poly) → Canonical p f → Each (NonZero F x) (put_q p f fs) ↔ (NonZero F x f × Each (NonZero F x) fs)
    unfolding put_q
    put_q_nonzero f fs c =
        let u = each_unless_dropped (NonZero F x) (is_one (monic p f) || member (monic p f) fs) (monic p f) fs
        (λ t e. elim (or_cases (is_one (monic p f)) _ t) [ inl z ↦ one_is_nonzero (monic p f) z | inr m ↦ each_of_member (NonZero F x) (monic p f) fs m e ]) in
        ((λ e. ((λ z. (u.0 e).0 ((monic_keeps_zeros f c).1 z)), (u.0 e).1)), (λ e. u.1 ((λ z. e.0 ((monic_keeps_zeros f c).0 z)), e.1)))

    pub put_all_p_zero : (fs out : List Poly) → Each (Canonical p) fs → Each (Zero F x) (put_all (put_p p) fs out) ↔ (Each (Zero F x) fs × Each (Zero F x) out)
    unfolding put_all
    put_all_p_zero [] out c = ((λ e. (tt, e)), (λ e. e.1))
    put_all_p_zero (f ∷ fs) out c =
        let ih = put_all_p_zero fs (put_p p f out) c.1 in
        let put = put_p_zero f out c.0 in
        ((λ e. (((put.0 (ih.0 e).1).0, (ih.0 e).0), (put.0 (ih.0 e).1).1)), (λ e. ih.1 (e.0.1, put.1 (e.0.0, e.1))))

    pub put_all_q_nonzero : (fs out : List Poly) → Each (Canonical p) fs → Each (NonZero F x) (put_all (put_q p) fs out) ↔ (Each (NonZero F x) fs × Each (NonZero F x) out)
    unfolding put_all
    put_all_q_nonzero [] out c = ((λ e. (tt, e)), (λ e. e.1))
    put_all_q_nonzero (f ∷ fs) out c =
        let ih = put_all_q_nonzero fs (put_q p f out) c.1 in
        let put = put_q_nonzero f out c.0 in
        ((λ e. (((put.0 (ih.0 e).1).0, (ih.0 e).0), (put.0 (ih.0 e).1).1)), (λ e. ih.1 (e.0.1, put.1 (e.0.0, e.1))))
