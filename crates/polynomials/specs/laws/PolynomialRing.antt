-- Canonical polynomials are a commutative ring; the division as an equation of polynomials.
use Rattle.std.specs.Prelude.{◌≡◌, refl, Bool, leb}
use Rattle.std.proofs.Math.Path.{sym, ap, ap₂, fun_ext}
use Rattle.std.proofs.Common.{◌∙◌}
use mathlib.Core.List.{[], ◌∷◌}
use Rattle.std.proofs.Math.Bool.{true, false}
use mathlib.Core.HLevel.{Σ_prop_path, ×_prop, Unit-prop, hedberg}
use Prim.Native.Nat.{ℕ, zero, suc, ◌≤◌, Ordering, Fin}
use Rattle.std.proofs.Math.Bridge.{le_prop}
use Rattle.std.proofs.Math.Decide.{map_dec, ℕ_discrete}
use Rattle.residues.specs.Field.{CommRing}
use Rattle.residues.specs.laws.Ring.{cast_one, add_nil, nil_add, one_mul}
use Rattle.residues.specs.laws.Residues.{Residues, cast_modulus}
use Rattle.polynomials.specs.Poly.{Exponents, Poly, order, join, sum, difference, product}
use Rattle.polynomials.specs.Canonical.{Canonical, Under}
use Rattle.polynomials.specs.Division.{constant_one, power, coefficient, round, remainder, rounds, multiple, degree}
use Rattle.polynomials.specs.Value.{weigh}
use Rattle.polynomials.specs.laws.Order.{join_nil, join_comm, join_assoc}
use Rattle.polynomials.specs.laws.Weigh.{weigh_add, weigh_sum, weigh_difference, weigh_product, weigh_swap}
use Rattle.polynomials.specs.laws.Canonical.{canonical_sum, canonical_difference, canonical_product, canonical_ext}
use Rattle.polynomials.specs.laws.Division.{Reading, division, of_power}

-- ── being canonical is a proposition ──
abbrev number : Ordering → ℕ
number Ordering.lt = 0
number Ordering.eq = 1
number Ordering.gt = 2

abbrev numbered : ℕ → Ordering
numbered zero = Ordering.lt
numbered (suc zero) = Ordering.eq
numbered (suc (suc n)) = Ordering.gt

back : (o : Ordering) → numbered (number o) ≡ o
back Ordering.lt = refl
back Ordering.eq = refl
back Ordering.gt = refl

ordering_set : IsSet Ordering
ordering_set = hedberg (λ a b. map_dec (λ e. sym (back a) ∙ ap numbered e ∙ back b) (ap number) (ℕ_discrete (number a) (number b)))

under_prop : (e : Exponents) (f : Poly) → IsProp (Under e f)
under_prop e [] = Unit-prop
under_prop e (t ∷ f) = ×_prop (ordering_set (order t.exps e) Ordering.lt) (under_prop e f)

canonical_prop : (p : ℕ) (f : Poly) → IsProp (Canonical p f)
canonical_prop p [] u v = Unit-prop u v
canonical_prop p (t ∷ f) u v = λ i. (le_prop u.0 v.0 i, le_prop u.1 v.1 i, under_prop t.exps f u.2 v.2 i, canonical_prop p f u.3 v.3 i)

-- ── the ring ──
module _ (p : ℕ) (h : 1 ≤ p) where
  abbrev 𝓕 : CommRing (Fin p)
  𝓕 = Residues p h

  abbrev pub Canon : Type 0
  Canon = (f : Poly) × Canonical p f

  -- Any list of terms, brought to canonical form.
  abbrev pub canon : Poly → Canon
  canon f = (sum p f [], canonical_sum p f [] h tt)

  weigh_canon : (w : Exponents → Fin p) (f : Poly) → weigh 𝓕 w (canon f).0 ≡ weigh 𝓕 w f
  unfolding weigh
  weigh_canon w f = weigh_sum 𝓕 p (cast_modulus p h) w f [] ∙ add_nil 𝓕 (weigh 𝓕 w f)

  -- Equal where all weighings are.
  pub same : (f g : Canon) → ((w : Exponents → Fin p) → weigh 𝓕 w f.0 ≡ weigh 𝓕 w g.0) → f ≡ g
  same f g e = Σ_prop_path (canonical_prop p) (canonical_ext p h f.0 g.0 f.1 g.1 e)

  pub canon_is : (f : Canon) → canon f.0 ≡ f
  canon_is f = same (canon f.0) f (λ w. weigh_canon w f.0)

  zero_difference : (w : Exponents → Fin p) (f : Poly) → weigh 𝓕 w (difference p [] f) ≡ 𝓕.neg (weigh 𝓕 w f)
  unfolding weigh
  zero_difference w f = weigh_difference 𝓕 p (cast_modulus p h) h w [] f ∙ nil_add 𝓕 (𝓕.neg (weigh 𝓕 w f))

  weigh_one : (w : Exponents → Fin p) → weigh 𝓕 w constant_one ≡ w []
  unfolding weigh constant_one
  weigh_one w = add_nil 𝓕 _ ∙ ap (λ z. 𝓕.mul z (w [])) (cast_one 𝓕) ∙ one_mul 𝓕 (w [])

  -- each law, weighed
  module _ (w : Exponents → Fin p) where
    open 𝓕 use {add as ◌⊕◌, mul as ◌⊗◌, nil as 𝟘, one as 𝟙}

    infixl 60 ◌⊕◌
    infixl 70 ◌⊗◌
    abbrev W : Poly → Fin p
    W f = weigh 𝓕 w f

    abbrev S : (f g : Poly) → W (sum p f g) ≡ W f ⊕ W g
    S f g = weigh_sum 𝓕 p (cast_modulus p h) w f g

    pub w_sum_assoc : (f g k : Poly) → W (sum p (sum p f g) k) ≡ W (sum p f (sum p g k))
    w_sum_assoc f g k = S (sum p f g) k ∙ ap (λ z. z ⊕ W k) (S f g) ∙ 𝓕.add_assoc (W f) (W g) (W k) ∙ ap (λ z. W f ⊕ z) (sym (S g k)) ∙ sym (S f (sum p g k))

    pub w_sum_comm : (f g : Poly) → W (sum p f g) ≡ W (sum p g f)
    w_sum_comm f g = S f g ∙ 𝓕.add_comm (W f) (W g) ∙ sym (S g f)

    pub w_sum_nil : (f : Poly) → W (sum p f []) ≡ W f
    unfolding weigh
    w_sum_nil f = S f [] ∙ add_nil 𝓕 (W f)

    pub w_sum_neg : (f : Poly) → W (sum p f (difference p [] f)) ≡ W []
    unfolding weigh
    w_sum_neg f = S f (difference p [] f) ∙ ap (λ z. W f ⊕ z) (zero_difference w f) ∙ 𝓕.add_neg (W f)

    pub w_product_comm : (f g : Poly) → W (product p f g) ≡ W (product p g f)
    w_product_comm f g =
        weigh_product 𝓕 p (cast_modulus p h) w f g ∙ weigh_swap 𝓕 (λ a b. w (join a b)) f g
        ∙ ap (λ u. weigh 𝓕 u g) (fun_ext (λ b. ap (λ u. weigh 𝓕 u f) (fun_ext (λ a. ap w (join_comm a b))))) ∙ sym (weigh_product 𝓕 p (cast_modulus p h) w g f)

    pub w_product_assoc : (f g k : Poly) → W (product p (product p f g) k) ≡ W (product p f (product p g k))
    w_product_assoc f g k =
        weigh_product 𝓕 p (cast_modulus p h) w (product p f g) k ∙ weigh_product 𝓕 p (cast_modulus p h) (λ a. weigh 𝓕 (λ b. w (join a b)) k) f g
        ∙ ap (λ u. weigh 𝓕 u f) (fun_ext (λ a. ap (λ u. weigh 𝓕 u g) (fun_ext (λ b. ap (λ u. weigh 𝓕 u k) (fun_ext (λ c. ap w (join_assoc a b c)))))
        ∙ sym (weigh_product 𝓕 p (cast_modulus p h) (λ m. w (join a m)) g k)))
        ∙ sym (weigh_product 𝓕 p (cast_modulus p h) w f (product p g k))

    pub w_product_one : (f : Poly) → W (product p f (canon constant_one).0) ≡ W f
    w_product_one f = weigh_product 𝓕 p (cast_modulus p h) w f (canon constant_one).0
        ∙ ap (λ u. weigh 𝓕 u f) (fun_ext (λ a. weigh_canon (λ b. w (join a b)) constant_one ∙ weigh_one (λ b. w (join a b)) ∙ ap w (join_nil a)))

    pub w_product_sum : (f g k : Poly) → W (product p f (sum p g k)) ≡ W (sum p (product p f g) (product p f k))
    w_product_sum f g k =
        weigh_product 𝓕 p (cast_modulus p h) w f (sum p g k) ∙ ap (λ u. weigh 𝓕 u f) (fun_ext (λ a. weigh_sum 𝓕 p (cast_modulus p h) (λ b. w (join a b)) g k))
        ∙ weigh_add 𝓕 (λ a. weigh 𝓕 (λ b. w (join a b)) g) (λ a. weigh 𝓕 (λ b. w (join a b)) k) f
        ∙ ap₂ ◌⊕◌ (sym (weigh_product 𝓕 p (cast_modulus p h) w f g)) (sym (weigh_product 𝓕 p (cast_modulus p h) w f k)) ∙ sym (S (product p f g) (product p f k))

  -- canonical parts may be put in or left out under an operation
  w_sum_canon : (w : Exponents → Fin p) (f g : Poly) → weigh 𝓕 w (sum p (canon f).0 (canon g).0) ≡ weigh 𝓕 w (sum p f g)
  w_sum_canon w f g = weigh_sum 𝓕 p (cast_modulus p h) w _ _ ∙ ap₂ 𝓕.add (weigh_canon w f) (weigh_canon w g) ∙ sym (weigh_sum 𝓕 p (cast_modulus p h) w f g)

  w_product_canon : (w : Exponents → Fin p) (f g : Poly) → weigh 𝓕 w (product p (canon f).0 (canon g).0) ≡ weigh 𝓕 w (product p f g)
  w_product_canon w f g =
      weigh_product 𝓕 p (cast_modulus p h) w _ _ ∙ ap (λ u. weigh 𝓕 u (canon f).0) (fun_ext (λ a. weigh_canon (λ b. w (join a b)) g))
      ∙ weigh_canon _ f ∙ sym (weigh_product 𝓕 p (cast_modulus p h) w f g)

  unfoldable pub Polynomials : CommRing Canon
  Polynomials = record {
    add = λ f g. (sum p f.0 g.0, canonical_sum p f.0 g.0 h g.1);
    mul = λ f g. (product p f.0 g.0, canonical_product p f.0 g.0 h);
    neg = λ f. (difference p [] f.0, canonical_difference p [] f.0 h tt);
    nil = ([], tt);
    one = canon constant_one;
    add_assoc = λ f g k. same _ _ (λ w. w_sum_assoc w f.0 g.0 k.0);
    add_comm = λ f g. same _ _ (λ w. w_sum_comm w f.0 g.0);
    add_nil = λ f. same _ _ (λ w. w_sum_nil w f.0);
    add_neg = λ f. same _ _ (λ w. w_sum_neg w f.0);
    mul_assoc = λ f g k. same _ _ (λ w. w_product_assoc w f.0 g.0 k.0);
    mul_comm = λ f g. same _ _ (λ w. w_product_comm w f.0 g.0);
    mul_one = λ f. same _ _ (λ w. w_product_one w f.0);
    mul_add = λ f g k. same _ _ (λ w. w_product_sum w f.0 g.0 k.0);
  }

  -- A polynomial read in this ring is its canonical form.
  reading_self : Reading p Polynomials canon
  unfolding Polynomials
  reading_self = record {
    of_nil = same _ _ (λ w. weigh_canon w []);
    of_one = refl;
    of_sum = λ f g. same _ _ (λ w. weigh_canon w (sum p f g) ∙ sym (w_sum_canon w f g));
    of_difference = λ f g. same _ _ (λ w. weigh_canon w (difference p f g) ∙ weigh_difference 𝓕 p (cast_modulus p h) h w f g
        ∙ sym (weigh_sum 𝓕 p (cast_modulus p h) w _ _ ∙ ap₂ 𝓕.add (weigh_canon w f) (zero_difference w _ ∙ ap 𝓕.neg (weigh_canon w g))));
    of_product = λ f g. same _ _ (λ w. weigh_canon w (product p f g) ∙ sym (w_product_canon w f g));
  }

  pub canonical_remainder : (k d : ℕ) (G : Poly) (n : ℕ) (R : Poly) → Canonical p R → Canonical p (remainder p k d G n R)
  unfolding remainder round
  canonical_remainder k d G zero R c = c
  canonical_remainder k d G (suc n) R c =
      go (leb d (degree k R)) (canonical_remainder k d G n (round p k d G R) (canonical_difference p _ _ h (canonical_product p (coefficient k d G) R h)))
    where
      go : (b : Bool) → Canonical p (remainder p k d G n (round p k d G R)) → Canonical p (elim b [ true ↦ remainder p k d G n (round p k d G R) | false ↦ R ])
      go true ih = ih
      go false ih = c

  -- With s rounds, the initial to the power s, times R, is a multiple of G plus the remainder: as polynomials, lists of terms in canonical form, with no bound on
  -- terms or exponents.
  pub division_polynomials : (k d : ℕ) (G : Poly) (n : ℕ) (R : Poly) → Canonical p R →
      product p (power p (coefficient k d G) (rounds p k d G n R)) R ≡ sum p (product p (multiple p k d G n R) G) (remainder p k d G n R)
  division_polynomials k d G n R c =
      ap (λ (z : Canon). z.0)
      (sym (canon_is (product p I^s R, canonical_product p I^s R h))
      ∙ reading_self.of_product I^s R ∙ ap (λ z. Polynomials.mul z (canon R)) (of_power Polynomials p canon reading_self (coefficient k d G) (rounds p k d G n R))
      ∙ division Polynomials p canon reading_self k d G n R
      ∙ sym (reading_self.of_sum QG M ∙ ap (λ z. Polynomials.add z (canon M)) (reading_self.of_product (multiple p k d G n R) G))
      ∙ canon_is (sum p QG M, canonical_sum p QG M h (canonical_remainder k d G n R c)))
    where
      I^s : Poly
      I^s = power p (coefficient k d G) (rounds p k d G n R)

      QG : Poly
      QG = product p (multiple p k d G n R) G

      M : Poly
      M = remainder p k d G n R
