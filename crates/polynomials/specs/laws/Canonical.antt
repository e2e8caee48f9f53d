-- The operations give canonical polynomials, and two canonical polynomials with equal coefficients are the same list.
use Rattle.std.specs.Prelude.{◌≡◌, ◌≢◌, Bool, true, false, T, eqb, get_or, set}
use Rattle.std.proofs.Math.Path.{refl, ap, ap₂}
use Rattle.std.proofs.Common.{sym, ◌∙◌, subst, mod-lt, mod-eq_of_lt, arith, eqb→eq}
use mathlib.Core.List.{[], ◌∷◌}
use Prim.Native.Nat.{ℕ, zero, suc, ◌+◌, ◌-◌, ◌*◌, ◌%◌, ◌≤◌, ◌<◌, compare, Ordering, Fin}
use Rattle.std.proofs.Math.Dec.{eqb_refl}
use Rattle.residues.specs.Field.{cast}
use Rattle.residues.specs.laws.Ring.{add_cancel, add_nil, mul_one, mul_nil}
use Rattle.residues.specs.laws.Residues.{Residues, cast_residue, nil_is}
use Rattle.polynomials.specs.Poly.{Exponents, Term, Poly, order, join, keep, insert, add_multiple, sum, difference, product, monic, and_then}
use Rattle.polynomials.specs.Canonical.{Under, Canonical}
use Rattle.polynomials.specs.Division.{coefficient, without}
use Rattle.polynomials.specs.Value.{weigh}
use Rattle.polynomials.specs.laws.All.{all_map, all_insert, without_all}
use Rattle.polynomials.specs.laws.Order.{order_eq, order_refl, order_trans, order_flip, flip, compare_is}

pub under_trans : (a b : Exponents) → order a b ≡ Ordering.lt → (f : Poly) → Under a f → Under b f
under_trans a b h f u = all_map (λ e. order e a ≡ Ordering.lt) (λ e. order e b ≡ Ordering.lt) f (λ e l. order_trans e a b l h) u

canonical_keep : (p : ℕ) (e : Exponents) (c : ℕ) (f : Poly) → c < p → Under e f → Canonical p f → Canonical p (keep c e f)
unfolding keep
canonical_keep p e c f h u n = go (eqb c 0) (λ (z : c ≡ 0). subst (λ x. T (eqb x 0)) (sym z) (eqb_refl 0))
  where
    go : (x : Bool) → (c ≡ 0 → T x) → Canonical p (elim x [ true ↦ f | false ↦ record { coef = c; exps = e } ∷ f ])
    go true z = n
    go false z = let c≢ : c ≢ 0 = z in (omega arith, h, u, n)

canonical_insert : (p c : ℕ) (e : Exponents) (f : Poly) → c < p → Canonical p f → Canonical p (insert p c e f)
unfolding insert
canonical_insert p c e [] h n = canonical_keep p e c [] h tt tt
canonical_insert p c e (t ∷ f) h n = go (canonical_insert p c e f h n.3) (order e t.exps) refl
  where
    go : Canonical p (insert p c e f) → (o : Ordering) → order e t.exps ≡ o →
        Canonical p (elim o [ Ordering.lt ↦ t ∷ insert p c e f | Ordering.eq ↦ keep ((c + t.coef) % p) e f | Ordering.gt ↦ keep c e (t ∷ f) ])
    go ih Ordering.lt q = (n.0, n.1, all_insert (λ a. order a t.exps ≡ Ordering.lt) p c e f q n.2, ih)
    go ih Ordering.eq q = canonical_keep p e ((c + t.coef) % p) f (mod-lt (c + t.coef) (omega arith)) (subst (λ s. Under s f) (sym (order_eq e t.exps q)) n.2) n.3
    go ih Ordering.gt q =
        let below : order t.exps e ≡ Ordering.lt = order_flip e t.exps ∙ ap flip q in
        canonical_keep p e c (t ∷ f) h (below, under_trans t.exps e below f n.2) n

pub canonical_add_multiple : (p c : ℕ) (e : Exponents) (g f : Poly) → 1 ≤ p → Canonical p f → Canonical p (add_multiple p c e g f)
unfolding add_multiple
canonical_add_multiple p c e [] f h n = n
canonical_add_multiple p c e (t ∷ g) f h n = canonical_insert p (c * t.coef % p) (join e t.exps) (add_multiple p c e g f) (mod-lt (c * t.coef) h) (canonical_add_multiple p c e g f h n)

pub canonical_sum : (p : ℕ) (f g : Poly) → 1 ≤ p → Canonical p g → Canonical p (sum p f g)
unfolding sum
canonical_sum p f g h n = canonical_add_multiple p 1 [] f g h n

pub canonical_difference : (p : ℕ) (f g : Poly) → 1 ≤ p → Canonical p f → Canonical p (difference p f g)
unfolding difference
canonical_difference p f g h n = canonical_add_multiple p (p - 1) [] g f h n

pub canonical_product : (p : ℕ) (f g : Poly) → 1 ≤ p → Canonical p (product p f g)
unfolding product
canonical_product p [] g h = tt
canonical_product p (t ∷ f) g h = canonical_add_multiple p t.coef t.exps g (product p f g) h (canonical_product p f g h)

-- ── a canonical polynomial is known by its weighings in the residues ──
module _ (p : ℕ) (h : 1 ≤ p) where
  open Residues p h use {add as ◌⊕◌, mul as ◌⊗◌, nil as 𝟘, one as 𝟙}

  infixl 60 ◌⊕◌
  infixl 70 ◌⊗◌
  -- One at e, zero elsewhere: this weighing is the coefficient at e.
  unfoldable pub only : Exponents → Exponents → Fin p
  only e a = elim (order a e) [ Ordering.lt ↦ 𝟘 | Ordering.eq ↦ 𝟙 | Ordering.gt ↦ 𝟘 ]

  only_lt : (e a : Exponents) → order a e ≡ Ordering.lt → only e a ≡ 𝟘
  unfolding only
  only_lt e a q = ap (λ (o : Ordering). elim o as (λ o. Fin p) [ Ordering.lt ↦ 𝟘 | Ordering.eq ↦ 𝟙 | Ordering.gt ↦ 𝟘 ]) q

  only_eq : (e : Exponents) → only e e ≡ 𝟙
  unfolding only
  only_eq e = ap (λ (o : Ordering). elim o as (λ o. Fin p) [ Ordering.lt ↦ 𝟘 | Ordering.eq ↦ 𝟙 | Ordering.gt ↦ 𝟘 ]) (order_refl e)

  under_zero : (e : Exponents) (f : Poly) → Under e f → weigh (Residues p h) (only e) f ≡ 𝟘
  unfolding weigh
  under_zero e [] u = refl
  under_zero e (t ∷ f) u = ap₂ (λ x y. cast (Residues p h) t.coef ⊗ x ⊕ y) (only_lt e t.exps u.0) (under_zero e f u.1) ∙ add_nil (Residues p h) _ ∙ mul_nil (Residues p h) _

  -- The leading coefficient.
  pub leading : (t : Term) (f : Poly) → Under t.exps f → weigh (Residues p h) (only t.exps) (t ∷ f) ≡ cast (Residues p h) t.coef
  unfolding weigh
  leading t f u = ap₂ (λ x y. cast (Residues p h) t.coef ⊗ x ⊕ y) (only_eq t.exps) (under_zero t.exps f u) ∙ add_nil (Residues p h) _ ∙ mul_one (Residues p h) _

  cast_is : (c : ℕ) → c < p → (cast (Residues p h) c).0 ≡ c
  cast_is c l = ap (λ (z : Fin p). z.0) (cast_residue p h c) ∙ mod-eq_of_lt l

  cast_inj : (c d : ℕ) → c < p → d < p → cast (Residues p h) c ≡ cast (Residues p h) d → c ≡ d
  cast_inj c d l m e = sym (cast_is c l) ∙ ap (λ (z : Fin p). z.0) e ∙ cast_is d m

  pub not_zero : (c : ℕ) → 1 ≤ c → c < p → cast (Residues p h) c ≡ 𝟘 → ⊥
  not_zero c n l e = let z : c ≡ 0 = sym (cast_is c l) ∙ ap (λ (z : Fin p). z.0) e ∙ nil_is p h in omega arith

  -- Nothing that vanishes at the leading monomial of a canonical polynomial weighs the same.
  above : (t : Term) (g f : Poly) → Canonical p (t ∷ g) → Under t.exps f → weigh (Residues p h) (only t.exps) f ≡ weigh (Residues p h) (only t.exps) (t ∷ g) → ⊥
  above t g f n u e = not_zero t.coef n.0 n.1 (sym (sym (under_zero t.exps f u) ∙ e ∙ leading t g n.2))

  pub canonical_ext : (f g : Poly) → Canonical p f → Canonical p g → ((w : Exponents → Fin p) → weigh (Residues p h) w f ≡ weigh (Residues p h) w g) → f ≡ g
  unfolding weigh
  canonical_ext [] [] m n e = refl
  canonical_ext [] (u ∷ g) m n e = absurd (above u g [] n tt (e (only u.exps)))
  canonical_ext (t ∷ f) [] m n e = absurd (above t f [] m tt (sym (e (only t.exps))))
  canonical_ext (t ∷ f) (u ∷ g) m n e = go (canonical_ext f g m.3 n.3) (order t.exps u.exps) refl
    where
      go : (((w : Exponents → Fin p) → weigh (Residues p h) w f ≡ weigh (Residues p h) w g) → f ≡ g) → (o : Ordering) → order t.exps u.exps ≡ o → (t ∷ f) ≡ (u ∷ g)
      go ih Ordering.lt q = absurd (above u g (t ∷ f) n (q, under_trans t.exps u.exps q f m.2) (e (only u.exps)))
      go ih Ordering.gt q =
          let q' : order u.exps t.exps ≡ Ordering.lt = order_flip t.exps u.exps ∙ ap flip q in
          absurd (above t f (u ∷ g) m (q', under_trans u.exps t.exps q' g n.2) (sym (e (only t.exps))))
      go ih Ordering.eq q =
          let same : t.exps ≡ u.exps = order_eq t.exps u.exps q in
          let coefs : t.coef ≡ u.coef = cast_inj t.coef u.coef m.1 n.1
          (sym (leading t f m.2) ∙ e (only t.exps) ∙ ap (λ s. weigh (Residues p h) (only s) (u ∷ g)) same ∙ leading u g n.2) in
          ap₂ ◌∷◌ (λ i. record { coef = coefs i; exps = same i })
          (ih (λ w. add_cancel (Residues p h) _ _ _ (e w ∙ ap₂ (λ x y. cast (Residues p h) x ⊗ w y ⊕ weigh (Residues p h) w g) (sym coefs) (sym same))))

-- ── the parts of a canonical polynomial ──
-- Exponents alike at k keep their order where that place is cleared.
order_set : (k : ℕ) (a b : Exponents) → get_or a k 0 ≡ get_or b k 0 → order (set a k 0) (set b k 0) ≡ order a b
unfolding order
order_set k [] [] e = refl
order_set k [] (y ∷ b) e = go k
  where
    go : (k : ℕ) → order [] (set (y ∷ b) k 0) ≡ Ordering.lt
    go zero = refl
    go (suc k) = refl
order_set k (x ∷ a) [] e = go k
  where
    go : (k : ℕ) → order (set (x ∷ a) k 0) [] ≡ Ordering.gt
    go zero = refl
    go (suc k) = refl
order_set zero (x ∷ a) (y ∷ b) e = ap (and_then (order a b)) (compare_is 0 0 Ordering.eq refl ∙ sym (compare_is x y Ordering.eq e))
order_set (suc k) (x ∷ a) (y ∷ b) e = ap (λ o. and_then o (compare x y)) (order_set k a b e)

under_coefficient : (k d : ℕ) (e : Exponents) (f : Poly) → get_or e k 0 ≡ d → Under e f → Under (set e k 0) (coefficient k d f)
unfolding coefficient
under_coefficient k d e [] q u = tt
under_coefficient k d e (t ∷ f) q u = go (under_coefficient k d e f q u.1) (eqb (get_or t.exps k 0) d) (eqb→eq (get_or t.exps k 0) d)
  where
    go : Under (set e k 0) (coefficient k d f) → (b : Bool) → (T b → get_or t.exps k 0 ≡ d) →
        Under (set e k 0) (elim b [ true ↦ record { coef = t.coef; exps = set t.exps k 0 } ∷ coefficient k d f | false ↦ coefficient k d f ])
    go ih true h = (order_set k t.exps e (h tt ∙ sym q) ∙ u.0, ih)
    go ih false h = ih

pub canonical_coefficient : (p k d : ℕ) (f : Poly) → Canonical p f → Canonical p (coefficient k d f)
unfolding coefficient
canonical_coefficient p k d [] c = tt
canonical_coefficient p k d (t ∷ f) c = go (canonical_coefficient p k d f c.3) (eqb (get_or t.exps k 0) d) (eqb→eq (get_or t.exps k 0) d)
  where
    go : Canonical p (coefficient k d f) → (b : Bool) → (T b → get_or t.exps k 0 ≡ d) →
        Canonical p (elim b [ true ↦ record { coef = t.coef; exps = set t.exps k 0 } ∷ coefficient k d f | false ↦ coefficient k d f ])
    go ih true h = (c.0, c.1, under_coefficient k d t.exps f (h tt) c.2, ih)
    go ih false h = ih

pub canonical_without : (p k d : ℕ) (f : Poly) → Canonical p f → Canonical p (without k d f)
unfolding without
canonical_without p k d [] c = tt
canonical_without p k d (t ∷ f) c = go (canonical_without p k d f c.3) (eqb (get_or t.exps k 0) d)
  where
    go : Canonical p (without k d f) → (b : Bool) → Canonical p (elim b [ true ↦ without k d f | false ↦ t ∷ without k d f ])
    go ih true = ih
    go ih false = (c.0, c.1, without_all (λ a. order a t.exps ≡ Ordering.lt) k d f c.2, ih)

pub canonical_monic : (p : ℕ) (f : Poly) → 1 ≤ p → Canonical p (monic p f)
unfolding monic
canonical_monic p [] h = tt
canonical_monic p (t ∷ f) h = canonical_add_multiple p _ [] (t ∷ f) [] h tt

-- Where the first term is below e, all are.
pub under_first : (p : ℕ) (e : Exponents) (t : Term) (f : Poly) → Canonical p (t ∷ f) → order t.exps e ≡ Ordering.lt → Under e (t ∷ f)
under_first p e t f n h = (h, under_trans t.exps e h f n.2)
