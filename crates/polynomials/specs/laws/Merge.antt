-- A multiple added to a canonical polynomial by walking both lists from the front: the equations that the code's loop follows.
use Rattle.std.specs.Prelude.{◌≡◌, refl, ◌≢◌, [], ◌∷◌, Bool, true, false, T, eqb, length}
use Rattle.std.proofs.Common.{sym, ◌∙◌, ap, ap₂, subst, zero-add, mul-zero, mod-eq_of_lt, arith, eqb→eq}
use Prim.Native.Nat.{ℕ, zero, suc, ◌+◌, ◌*◌, ◌%◌, ◌≤◌, ◌<◌, Ordering}
use Rattle.std.proofs.Math.Nat.{zero-mod}
use Rattle.std.proofs.Math.Dec.{eqb_refl}
use Rattle.residues.specs.Prime.{Prime}
use Rattle.residues.specs.Residue.{inverse}
use Rattle.residues.specs.laws.Inverse.{mul_mod_r, inverse_ok, euclid}
use Rattle.polynomials.specs.Poly.{Exponents, Term, Poly, order, join, keep, insert, add_multiple, monic}
use Rattle.polynomials.specs.Canonical.{Under, Canonical, All}
use Rattle.polynomials.specs.Packed.{bytes}
use Rattle.polynomials.specs.laws.Order.{order_refl, order_flip, order_trans, order_join, flip}
use Rattle.polynomials.specs.laws.All.{all_map, all_add_multiple}

choose : Ordering → Poly → Poly → Poly → Poly
choose o a b c = elim o [ Ordering.lt ↦ a | Ordering.eq ↦ b | Ordering.gt ↦ c ]

-- A term above all others goes in front; one below the first goes behind it.
insert_top : (p c : ℕ) (e : Exponents) (f : Poly) → Under e f → insert p c e f ≡ keep c e f
unfolding insert choose
insert_top p c e [] u = refl
insert_top p c e (t ∷ f) u = ap (λ o. choose o (t ∷ insert p c e f) (keep ((c + t.coef) % p) e f) (keep c e (t ∷ f))) (order_flip t.exps e ∙ ap flip u.0)

insert_behind : (p c : ℕ) (e : Exponents) (t : Term) (f : Poly) → order e t.exps ≡ Ordering.lt → insert p c e (t ∷ f) ≡ t ∷ insert p c e f
unfolding insert choose
insert_behind p c e t f q = ap (λ o. choose o (t ∷ insert p c e f) (keep ((c + t.coef) % p) e f) (keep c e (t ∷ f))) q

insert_at : (p c : ℕ) (t : Term) (f : Poly) → insert p c t.exps (t ∷ f) ≡ keep ((c + t.coef) % p) t.exps f
unfolding insert choose
insert_at p c t f = ap (λ o. choose o (t ∷ insert p c t.exps f) (keep ((c + t.coef) % p) t.exps f) (keep c t.exps (t ∷ f))) (order_refl t.exps)

-- ── c·e times g, for any monomial e ──
-- All terms of e times g are below b.
abbrev pub Below : Exponents → Exponents → Poly → Type 0
Below b e g = All (λ a. order (join e a) b ≡ Ordering.lt) g

-- A common factor keeps the order of monomials of equal length.
pub below_first : (e b : Exponents) (g : Poly) → All (λ a. length a ≡ length b) g → Under b g → Below (join e b) e g
below_first e b [] l u = tt
below_first e b (t ∷ g) l u = (order_join e t.exps b l.0 ∙ u.0, below_first e b g l.1 u.1)

pub below_trans : (a b e : Exponents) → order a b ≡ Ordering.lt → (g : Poly) → Below a e g → Below b e g
below_trans a b e h g u = all_map (λ x. order (join e x) a ≡ Ordering.lt) (λ x. order (join e x) b ≡ Ordering.lt) g (λ x l. order_trans (join e x) a b l h) u

-- The first term of f above all of e times g.
pub multiple_left : (p c : ℕ) (e : Exponents) (t : Term) (f g : Poly) → Below t.exps e g → add_multiple p c e g (t ∷ f) ≡ t ∷ add_multiple p c e g f
unfolding add_multiple
multiple_left p c e t f [] u = refl
multiple_left p c e t f (s ∷ g) u =
    ap (insert p (c * s.coef % p) (join e s.exps)) (multiple_left p c e t f g u.1) ∙ insert_behind p (c * s.coef % p) (join e s.exps) t (add_multiple p c e g f) u.0

-- the first term of e times g above all others
pub multiple_right : (p c : ℕ) (e : Exponents) (s : Term) (f g : Poly) → Under (join e s.exps) f → Below (join e s.exps) e g →
    add_multiple p c e (s ∷ g) f ≡ keep (c * s.coef % p) (join e s.exps) (add_multiple p c e g f)
unfolding add_multiple
multiple_right p c e s f g u v =
    let b = join e s.exps in
    insert_top p (c * s.coef % p) b (add_multiple p c e g f) (all_add_multiple (λ a. order (join e a) b ≡ Ordering.lt) (λ a. order a b ≡ Ordering.lt) p c e g f (λ a l. l) v u)

-- both first terms alike
pub multiple_both : (p c : ℕ) (e : Exponents) (t s : Term) (f g : Poly) → t.exps ≡ join e s.exps → Below (join e s.exps) e g →
    add_multiple p c e (s ∷ g) (t ∷ f) ≡ keep ((c * s.coef % p + t.coef) % p) t.exps (add_multiple p c e g f)
unfolding add_multiple
multiple_both p c e t s f g q v =
    ap₂ (insert p (c * s.coef % p)) (sym q) (multiple_left p c e t f g (subst (λ b. Below b e g) (sym q) v)) ∙ insert_at p (c * s.coef % p) t (add_multiple p c e g f)

-- The monomial 1, written as n zeros or as none.
join_zeros : (n : ℕ) (a : Exponents) → length a ≡ n → join (bytes n 0) a ≡ a
unfolding join bytes
join_zeros zero [] h = refl
join_zeros zero (x ∷ a) h = absurd (omega arith)
join_zeros (suc n) [] h = absurd (omega arith)
join_zeros (suc n) (x ∷ a) h = ap₂ ◌∷◌ (zero-add x) (join_zeros n a (omega arith))

pub multiple_zeros : (p c n : ℕ) (g f : Poly) → All (λ a. length a ≡ n) g → add_multiple p c (bytes n 0) g f ≡ add_multiple p c [] g f
unfolding add_multiple join
multiple_zeros p c n [] f l = refl
multiple_zeros p c n (t ∷ g) f l = ap₂ (insert p (c * t.coef % p)) (join_zeros n t.exps l.0) (multiple_zeros p c n g f l.1)

pub keep_none : (s : ℕ) (e : Exponents) (f : Poly) → s ≡ 0 → keep s e f ≡ f
unfolding keep
keep_none s e f z = go (eqb s 0) (subst (λ x. T (eqb x 0)) (sym z) (eqb_refl 0))
  where
    go : (b : Bool) → T b → elim b [ true ↦ f | false ↦ record { coef = s; exps = e } ∷ f ] ≡ f
    go true t = refl
    go false t = absurd t

pub keep_some : (s : ℕ) (e : Exponents) (f : Poly) → s ≢ 0 → keep s e f ≡ record { coef = s; exps = e } ∷ f
unfolding keep
keep_some s e f n = go (eqb s 0) (eqb→eq s 0)
  where
    go : (b : Bool) → (T b → s ≡ 0) → elim b [ true ↦ f | false ↦ record { coef = s; exps = e } ∷ f ] ≡ record { coef = s; exps = e } ∷ f
    go true z = absurd (n (z tt))
    go false z = refl

-- ── each coefficient times c ──
unfoldable pub scaled : ℕ → ℕ → Poly → Poly
scaled p c [] = []
scaled p c (t ∷ f) = record { coef = c * t.coef % p; exps = t.exps } ∷ scaled p c f

under_scaled : (p c : ℕ) (e : Exponents) (f : Poly) → Under e f → Under e (scaled p c f)
unfolding scaled
under_scaled p c e [] u = tt
under_scaled p c e (t ∷ f) u = (u.0, under_scaled p c e f u.1)

-- Where no product with c is zero, a multiple by c keeps all terms.
pub multiple_scaled : (p c : ℕ) (f : Poly) → ((a : ℕ) → 1 ≤ a → a < p → c * a % p ≢ 0) → Canonical p f → add_multiple p c [] f [] ≡ scaled p c f
unfolding add_multiple join scaled
multiple_scaled p c [] h n = refl
multiple_scaled p c (t ∷ f) h n =
    ap (insert p (c * t.coef % p) t.exps) (multiple_scaled p c f h n.3) ∙ insert_top p (c * t.coef % p) t.exps (scaled p c f) (under_scaled p c t.exps f n.2)
    ∙ keep_some (c * t.coef % p) t.exps (scaled p c f) (h t.coef n.0 n.1)

pub monic_scaled : (p : ℕ) (t : Term) (f : Poly) → Prime p → Canonical p (t ∷ f) → monic p (t ∷ f) ≡ scaled p (inverse p t.coef) (t ∷ f)
unfolding monic
monic_scaled p t f P n = multiple_scaled p (inverse p t.coef) (t ∷ f) nonzero n
  where
    unit : (t.coef * inverse p t.coef) % p ≡ 1
    unit = inverse_ok p t.coef P n.0 n.1

    nonzero : (a : ℕ) → 1 ≤ a → a < p → inverse p t.coef * a % p ≢ 0
    nonzero a h l z =
        let i : ℕ = inverse p t.coef in
        let q : i % p ≢ 0 = λ (e : i % p ≡ 0). none (sym unit ∙ sym (mul_mod_r t.coef i p) ∙ ap (λ x. t.coef * x % p) e ∙ ap (λ x. x % p) (mul-zero t.coef) ∙ zero-mod p) in
        let r : a % p ≡ 0 = euclid p i a P z q in
        omega (arith, mod-eq_of_lt l)
      where
        none : ◌≡◌ {A = ℕ} 1 0 → ⊥
        none e = omega arith
