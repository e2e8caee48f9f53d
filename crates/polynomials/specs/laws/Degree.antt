-- A round of the division lowers the degree, so the remainder has a degree below the divisor's; degrees of products.
use Rattle.std.specs.Prelude.{◌≡◌, ◌≢◌, Bool, not, T, eqb, leb, set}
use Rattle.std.proofs.Math.Path.{refl, sym, ap, ap₂, fun_ext}
use Rattle.std.proofs.Common.{◌∙◌, subst, zero-add, add-zero, sub-add_cancel, le_refl, arith, eqb→eq, leb→le}
use mathlib.Core.List.{[], ◌∷◌}
use Rattle.std.proofs.Math.Bool.{true, false}
use Prim.Native.Nat.{ℕ, zero, suc, ◌+◌, ◌-◌, ◌≤◌, ◌<◌, Ordering, Fin}
use Rattle.std.proofs.Math.Nat.{le-max_left, le-max_right}
use Rattle.std.proofs.Math.Decide.{dec_lt}
use Rattle.std.proofs.Math.Dec.{eqb_refl, nleb→lt}
use Rattle.std.proofs.Math.ListN.{get_or}
use Rattle.residues.specs.Field.{CommRing, cast}
use Rattle.residues.specs.laws.Ring.{ring_laws, add_nil, nil_add, add_left_comm, mul_nil, add_neg}
use Rattle.residues.specs.laws.Residues.{Residues, cast_modulus}
use Rattle.polynomials.specs.Poly.{Exponents, Poly, order, join, product}
use Rattle.polynomials.specs.Canonical.{Canonical, All}
use Rattle.polynomials.specs.Division.{degree, coefficient, without, pure_power, shift, factor, round, remainder}
use Rattle.polynomials.specs.Value.{weigh}
use Rattle.polynomials.specs.laws.Order.{order_eq, join_comm, join_assoc}
use Rattle.polynomials.specs.laws.All.{all_product}
use Rattle.polynomials.specs.laws.Weigh.{weigh_difference, weigh_product, weigh_swap}
use Rattle.polynomials.specs.laws.Canonical.{canonical_difference, canonical_product, only, leading, not_zero}

-- ── exponents at k ──
pub at_join : (k : ℕ) (a b : Exponents) → get_or (join a b) k 0 ≡ get_or a k 0 + get_or b k 0
unfolding join
at_join k [] b = sym (zero-add (get_or b k 0))
at_join k (x ∷ a) [] = sym (add-zero (get_or (x ∷ a) k 0))
at_join zero (x ∷ a) (y ∷ b) = refl
at_join (suc k) (x ∷ a) (y ∷ b) = at_join k a b

at_pure_power : (k m : ℕ) → get_or (pure_power k m) k 0 ≡ m
unfolding pure_power
at_pure_power zero m = refl
at_pure_power (suc k) m = at_pure_power k m

at_set : (k : ℕ) (a : Exponents) → get_or (set a k 0) k 0 ≡ 0
at_set k [] = refl
at_set zero (x ∷ a) = refl
at_set (suc k) (x ∷ a) = at_set k a

pure_power_join : (k m n : ℕ) → join (pure_power k m) (pure_power k n) ≡ pure_power k (m + n)
unfolding join pure_power
pure_power_join zero m n = refl
pure_power_join (suc k) m n = ap (λ z. 0 ∷ z) (pure_power_join k m n)

pure_power_set : (k e : ℕ) (b : Exponents) → 1 ≤ e → get_or b k 0 ≡ e → join (pure_power k e) (set b k 0) ≡ b
unfolding join pure_power
pure_power_set k e [] h q = absurd (omega arith)
pure_power_set zero e (x ∷ b) h q = ap (λ z. z ∷ b) (add-zero e ∙ sym q)
pure_power_set (suc k) e (x ∷ b) h q = ap₂ ◌∷◌ (zero-add x) (pure_power_set k e b h q)

-- ── all terms ──
pub all_degree : (k m : ℕ) (f : Poly) → degree k f ≤ m → All (λ a. get_or a k 0 ≤ m) f
unfolding degree
all_degree k m [] h = tt
all_degree k m (t ∷ f) h = (
  omega (arith, le-max_left (get_or t.exps k 0) (degree k f)),
  all_degree k m f (omega (arith, le-max_right (get_or t.exps k 0) (degree k f))),
)

all_without : (k d : ℕ) (f : Poly) → All (λ a. get_or a k 0 ≤ d) f → All (λ a. get_or a k 0 < d) (without k d f)
unfolding without
all_without k d [] h = tt
all_without k d (t ∷ f) h = go (all_without k d f h.1) (eqb (get_or t.exps k 0) d) (λ (z : get_or t.exps k 0 ≡ d). subst (λ x. T (eqb x d)) (sym z) (eqb_refl d))
  where
    go : All (λ a. get_or a k 0 < d) (without k d f) → (b : Bool) → (get_or t.exps k 0 ≡ d → T b) →
        All (λ a. get_or a k 0 < d) (elim b [ true ↦ without k d f | false ↦ t ∷ without k d f ])
    go ih true n = ih
    go ih false n = let n' : get_or t.exps k 0 ≢ d = n in (omega (arith, h.0), ih)

all_coefficient : (k d : ℕ) (f : Poly) → All (λ a. get_or a k 0 ≡ 0) (coefficient k d f)
unfolding coefficient
all_coefficient k d [] = tt
all_coefficient k d (t ∷ f) = go (all_coefficient k d f) (eqb (get_or t.exps k 0) d)
  where
    go : All (λ a. get_or a k 0 ≡ 0) (coefficient k d f) → (b : Bool) →
        All (λ a. get_or a k 0 ≡ 0) (elim b [ true ↦ record { coef = t.coef; exps = set t.exps k 0 } ∷ coefficient k d f | false ↦ coefficient k d f ])
    go ih true = (at_set k t.exps, ih)
    go ih false = ih

-- ── weighings ──
module _ {ℓ} {K : Type ℓ} (𝓡 : CommRing K) where
  open 𝓡 use {add as ◌⊕◌, mul as ◌⊗◌, nil as 𝟘}

  infixl 60 ◌⊕◌
  infixl 70 ◌⊗◌
  weigh_agree : (P : Exponents → Type 0) (w w' : Exponents → K) (f : Poly) → All P f → ((a : Exponents) → P a → w a ≡ w' a) → weigh 𝓡 w f ≡ weigh 𝓡 w' f
  unfolding weigh
  weigh_agree P w w' [] h e = refl
  weigh_agree P w w' (t ∷ f) h e = ap₂ (λ x y. cast 𝓡 t.coef ⊗ x ⊕ y) (e t.exps h.0) (weigh_agree P w w' f h.1 e)

  weigh_none : (P : Exponents → Type 0) (w : Exponents → K) (f : Poly) → All P f → ((a : Exponents) → P a → w a ≡ 𝟘) → weigh 𝓡 w f ≡ 𝟘
  unfolding weigh
  weigh_none P w [] h e = refl
  weigh_none P w (t ∷ f) h e = ap₂ (λ x y. cast 𝓡 t.coef ⊗ x ⊕ y) (e t.exps h.0) (weigh_none P w f h.1 e) ∙ add_nil 𝓡 _ ∙ mul_nil 𝓡 _

  weigh_shift : (w : Exponents → K) (k m : ℕ) (f : Poly) → weigh 𝓡 w (shift k m f) ≡ weigh 𝓡 (λ c. w (join (pure_power k m) c)) f
  unfolding weigh shift
  weigh_shift w k m [] = refl
  weigh_shift w k m (t ∷ f) = ap (λ z. cast 𝓡 t.coef ⊗ w (join (pure_power k m) t.exps) ⊕ z) (weigh_shift w k m f)

  -- the power d apart
  weigh_split : (w : Exponents → K) (k d : ℕ) (f : Poly) → 1 ≤ d → weigh 𝓡 w f ≡ weigh 𝓡 (λ c. w (join (pure_power k d) c)) (coefficient k d f) ⊕ weigh 𝓡 w (without k d f)
  unfolding weigh coefficient without
  weigh_split w k d [] h = sym (add_nil 𝓡 𝟘)
  weigh_split w k d (t ∷ f) h = go (weigh_split w k d f h) (eqb (get_or t.exps k 0) d) (eqb→eq (get_or t.exps k 0) d)
    where
      u : Exponents → K
      u c = w (join (pure_power k d) c)

      c : K
      c = cast 𝓡 t.coef

      law : (m a b : K) → m ⊕ (a ⊕ b) ≡ m ⊕ a ⊕ b
      law m a b = simp ring_laws

      go : weigh 𝓡 w f ≡ weigh 𝓡 u (coefficient k d f) ⊕ weigh 𝓡 w (without k d f) →
          (b : Bool) → (T b → get_or t.exps k 0 ≡ d) →
          c ⊗ w t.exps ⊕ weigh 𝓡 w f
          ≡ weigh 𝓡 u (elim b [ true ↦ record { coef = t.coef; exps = set t.exps k 0 } ∷ coefficient k d f | false ↦ coefficient k d f ])
          ⊕ weigh 𝓡 w (elim b [ true ↦ without k d f | false ↦ t ∷ without k d f ])
      go ih true q = ap₂ (λ x y. c ⊗ w x ⊕ y) (sym (pure_power_set k d t.exps h (q tt))) ih ∙ law (c ⊗ u (set t.exps k 0)) (weigh 𝓡 u (coefficient k d f)) (weigh 𝓡 w (without k d f))
      go ih false q = ap (λ y. c ⊗ w t.exps ⊕ y) ih ∙ add_left_comm 𝓡 (c ⊗ w t.exps) (weigh 𝓡 u (coefficient k d f)) (weigh 𝓡 w (without k d f))

join_left_comm : (a b c : Exponents) → join a (join b c) ≡ join b (join a c)
join_left_comm a b c = sym (join_assoc a b c) ∙ ap (λ z. join z c) (join_comm a b) ∙ join_assoc b a c

regroup : (A c D a : Exponents) → join (join A c) (join D a) ≡ join a (join (join A D) c)
regroup A c D a = simp (join_assoc, join_comm, join_left_comm)

module _ (p : ℕ) (h : 1 ≤ p) (k : ℕ) where
  open Residues p h use {add as ◌⊕◌, mul as ◌⊗◌, neg as ⊖◌, nil as 𝟘, one as 𝟙}

  infixl 60 ◌⊕◌
  infixl 70 ◌⊗◌
  infix 80 ⊖◌
  abbrev 𝓕 : CommRing (Fin p)
  𝓕 = Residues p h

  -- A weighing of the powers from e on.
  abbrev High : ℕ → (Exponents → Fin p) → Type 0
  High e w = (a : Exponents) → get_or a k 0 < e → w a ≡ 𝟘

  -- What has no powers from e on has a degree below e.
  low : (e : ℕ) (f : Poly) → Canonical p f → ((w : Exponents → Fin p) → High e w → weigh 𝓕 w f ≡ 𝟘) → All (λ a. get_or a k 0 < e) f
  unfolding weigh only
  low e [] c z = tt
  low e (t ∷ f) c z = elim (dec_lt (get_or t.exps k 0) e) [
    | yes l ↦ (l, low e f c.3 (rest l))
    | no n ↦ absurd (not_zero p h t.coef c.0 c.1 (sym (leading p h t f c.2) ∙ z (only p h t.exps) (single n)))
  ]
    where
      rest : get_or t.exps k 0 < e → (w : Exponents → Fin p) → High e w → weigh 𝓕 w f ≡ 𝟘
      rest l w u = sym (nil_add 𝓕 (weigh 𝓕 w f)) ∙ ap (λ y. y ⊕ weigh 𝓕 w f) (sym (mul_nil 𝓕 (cast 𝓕 t.coef)) ∙ ap (λ y. cast 𝓕 t.coef ⊗ y) (sym (u t.exps l))) ∙ z w u

      single : ¬ (get_or t.exps k 0 < e) → High e (only p h t.exps)
      single n a l = go (order a t.exps) (order_eq a t.exps)
        where
          go : (o : Ordering) → (o ≡ Ordering.eq → a ≡ t.exps) → (elim o as (λ o. Fin p) [ Ordering.lt ↦ 𝟘 | Ordering.eq ↦ 𝟙 | Ordering.gt ↦ 𝟘 ]) ≡ 𝟘
          go Ordering.lt q = refl
          go Ordering.eq q = absurd (n (subst (λ s. get_or s k 0 < e) (q refl) l))
          go Ordering.gt q = refl

  low_degree : (e : ℕ) (f : Poly) → 1 ≤ e → All (λ a. get_or a k 0 < e) f → degree k f < e
  unfolding degree
  low_degree e [] l u = l
  low_degree e (t ∷ f) l u = omega (arith, u.0, low_degree e f l u.1)

  module _ (d e : ℕ) (1≤d : 1 ≤ d) (d≤e : d ≤ e) (G R : Poly) (dG : degree k G ≤ d) (dR : degree k R ≤ e) (w : Exponents → Fin p) (u : High e w) where
    abbrev L : Poly
    L = coefficient k e R

    abbrev I : Poly
    I = coefficient k d G

    top_left : weigh 𝓕 w (product p I R) ≡ weigh 𝓕 (λ a. weigh 𝓕 (λ c. w (join a (join (pure_power k e) c))) L) I
    top_left = weigh_product 𝓕 p (cast_modulus p h) w I R ∙ weigh_agree 𝓕 (λ a. get_or a k 0 ≡ 0) _ _ I (all_coefficient k d G) inner
      where
        inner : (a : Exponents) → get_or a k 0 ≡ 0 → weigh 𝓕 (λ b. w (join a b)) R ≡ weigh 𝓕 (λ c. w (join a (join (pure_power k e) c))) L
        inner a z =
            weigh_split 𝓕 (λ b. w (join a b)) k e R (omega arith)
            ∙ ap (λ y. weigh 𝓕 (λ c. w (join a (join (pure_power k e) c))) L ⊕ y)
            (weigh_none 𝓕 (λ b. get_or b k 0 < e) (λ b. w (join a b)) (without k e R) (all_without k e R (all_degree k e R dR)) (λ b l. u (join a b) (omega (arith, at_join k a b))))
            ∙ add_nil 𝓕 _

    top_right : weigh 𝓕 w (product p (shift k (e - d) L) G) ≡ weigh 𝓕 (λ c. weigh 𝓕 (λ a. w (join a (join (pure_power k e) c))) I) L
    top_right =
        weigh_product 𝓕 p (cast_modulus p h) w (shift k (e - d) L) G ∙ weigh_shift 𝓕 (λ a. weigh 𝓕 (λ b. w (join a b)) G) k (e - d) L
        ∙ weigh_agree 𝓕 (λ a. get_or a k 0 ≡ 0) _ _ L (all_coefficient k e R) inner
      where
        same_place : (c a : Exponents) → join (join (pure_power k (e - d)) c) (join (pure_power k d) a) ≡ join a (join (pure_power k e) c)
        same_place c a = regroup (pure_power k (e - d)) c (pure_power k d) a ∙ ap (λ z. join a (join z c)) (pure_power_join k (e - d) d ∙ ap (pure_power k) (sub-add_cancel d≤e))

        inner : (c : Exponents) → get_or c k 0 ≡ 0 → weigh 𝓕 (λ b. w (join (join (pure_power k (e - d)) c) b)) G ≡ weigh 𝓕 (λ a. w (join a (join (pure_power k e) c))) I
        inner c z =
            weigh_split 𝓕 (λ b. w (join (join (pure_power k (e - d)) c) b)) k d G 1≤d
            ∙ ap₂ ◌⊕◌ (ap (λ v. weigh 𝓕 v I) (fun_ext (λ a. ap w (same_place c a))))
            (weigh_none 𝓕 (λ b. get_or b k 0 < d) (λ b. w (join (join (pure_power k (e - d)) c) b)) (without k d G) (all_without k d G (all_degree k d G dG))
            (λ b l. u (join (join (pure_power k (e - d)) c) b) (omega (arith, at_join k (join (pure_power k (e - d)) c) b, at_join k (pure_power k (e - d)) c, at_pure_power k (e - d)))))
            ∙ add_nil 𝓕 _

    top_cancels : weigh 𝓕 w (product p I R) ≡ weigh 𝓕 w (product p (shift k (e - d) L) G)
    top_cancels = top_left ∙ weigh_swap 𝓕 (λ a c. w (join a (join (pure_power k e) c))) I L ∙ sym top_right

  -- One round lowers the degree.
  pub round_lowers : (d : ℕ) (G R : Poly) → 1 ≤ d → degree k G ≤ d → d ≤ degree k R → degree k (round p k d G R) < degree k R
  unfolding round factor
  round_lowers d G R 1≤d dG dR =
      low_degree (degree k R) (round p k d G R) (omega arith)
      (low (degree k R) (round p k d G R) (canonical_difference p _ _ h (canonical_product p _ R h))
      (λ w u. weigh_difference 𝓕 p (cast_modulus p h) h w _ _
      ∙ ap (λ y. y ⊕ ⊖ weigh 𝓕 w (product p (factor k d R) G)) (top_cancels d (degree k R) 1≤d dR G R dG (le_refl (degree k R)) w u) ∙ add_neg 𝓕 _))

  -- With as many rounds allowed as the degree, and one more, the remainder is below d.
  pub remainder_low : (d : ℕ) (G : Poly) → 1 ≤ d → degree k G ≤ d → (n : ℕ) (R : Poly) → degree k R < n → degree k (remainder p k d G n R) < d
  unfolding remainder
  remainder_low d G 1≤d dG zero R l = absurd (omega arith)
  remainder_low d G 1≤d dG (suc n) R l = go (leb d (degree k R)) (leb→le d (degree k R)) (nleb→lt d (degree k R)) (remainder_low d G 1≤d dG n (round p k d G R))
    where
      go : (b : Bool) → (T b → d ≤ degree k R) → (T (not b) → degree k R < d) →
          (degree k (round p k d G R) < n → degree k (remainder p k d G n (round p k d G R)) < d) →
          degree k (elim b [ true ↦ remainder p k d G n (round p k d G R) | false ↦ R ]) < d
      go true x y ih = ih (omega (arith, round_lowers d G R 1≤d dG (x tt)))
      go false x y ih = y tt

-- ── degrees of a product ──
pub degree_at_most : (k m : ℕ) (f : Poly) → All (λ a. get_or a k 0 ≤ m) f → degree k f ≤ m
unfolding degree
degree_at_most k m [] u = omega arith
degree_at_most k m (t ∷ f) u = omega (arith, u.0, degree_at_most k m f u.1)

pub degree_product : (k p : ℕ) (f g : Poly) → degree k (product p f g) ≤ degree k f + degree k g
degree_product k p f g =
    degree_at_most k (degree k f + degree k g) (product p f g)
    (all_product (λ a. get_or a k 0 ≤ degree k f) (λ b. get_or b k 0 ≤ degree k g) (λ e. get_or e k 0 ≤ degree k f + degree k g) p f g
    (λ a b x y. omega (arith, at_join k a b)) (all_degree k (degree k f) f (omega arith)) (all_degree k (degree k g) g (omega arith)))

-- ── degrees of the parts ──
pub degree_without : (k d : ℕ) (f : Poly) → 1 ≤ d → degree k f ≤ d → degree k (without k d f) < d
degree_without k d f l h = low_degree 1 (le_refl 1) k d (without k d f) l (all_without k d f (all_degree k d f h))
