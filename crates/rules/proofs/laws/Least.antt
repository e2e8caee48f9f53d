-- The pivot goes ahead of every other polynomial that v(k+1) leads: of least degree in it, then fewest terms, then earliest.
use Rattle.std.specs.Prelude.{◌≡◌, ◌⊎◌, Bool, false, not, ◌&&◌, ◌||◌, eqb, ltb}
use Rattle.std.proofs.Math.Path.{refl, sym}
use Rattle.std.proofs.Common.{◌∙◌, ap, subst, arith}
use Rattle.std.proofs.Math.Logic.{inl, inr}
use mathlib.Core.List.{List, [], ◌∷◌}
use Rattle.std.proofs.Math.Bool.{true}
use Prim.Native.Nat.{ℕ, zero, suc, ◌≤◌, ◌<◌}
use Rattle.std.proofs.Math.Decide.{dec_lt}
use borrow.Author.Tests.{ltb-true, ltb-false, eqb-true, eq-eqb}
use Rattle.std.proofs.Math.ListN.{length}
use Rattle.polynomials.specs.Poly.{Poly}
use Rattle.polynomials.specs.Division.{degree, leader}
use Rattle.rules.specs.Branch.{led_by, Chosen, better, prefer, pivot}
use Rattle.rules.specs.Ahead.{Ahead}
use Rattle.rules.proofs.laws.Lists.{At}

-- ── the test of a better pivot ──
true_says : (c f x y z : Bool) → c && (not f || (x || (y && z))) ≡ true → (c ≡ true) × (f ≡ true → (x ≡ true) ⊎ ((y ≡ true) × (z ≡ true)))
true_says false f x y z e = (e, λ q. inl cc)
true_says true false x y z e = (refl, λ q. inl cc)
true_says true true true y z e = (refl, λ q. inl refl)
true_says true true false true z e = (refl, λ q. inr (refl, e))
true_says true true false false z e = (refl, λ q. inl e)

false_says : (c f x y z : Bool) → c && (not f || (x || (y && z))) ≡ false → c ≡ true → (f ≡ true) × (x ≡ false) × (y ≡ true → z ≡ false)
false_says false f x y z e q = (cc, cc, λ r. cc)
false_says true false x y z e q = (sym e, cc, λ r. cc)
false_says true true true y z e q = (refl, e, λ r. cc)
false_says true true false true z e q = (refl, refl, λ r. e)
false_says true true false false z e q = (refl, refl, λ r. cc)

module _ (k : ℕ) where
  better_says : (c f : Poly) → better k c f ≡ true →
      (leader c ≡ suc k) × (leader f ≡ suc k → (degree k c < degree k f) ⊎ ((degree k c ≡ degree k f) × (length c < length f)))
  unfolding better led_by
  better_says c f e =
      let s = true_says (eqb (leader c) (suc k)) (eqb (leader f) (suc k)) (ltb (degree k c) (degree k f)) (eqb (degree k c) (degree k f)) (ltb (length c) (length f)) e in
      (eqb-true (leader c) (suc k) s.0, λ q. go (s.1 (eq-eqb (leader f) (suc k) q)))
    where
      go : (ltb (degree k c) (degree k f) ≡ true) ⊎ ((eqb (degree k c) (degree k f) ≡ true) × (ltb (length c) (length f) ≡ true)) →
          (degree k c < degree k f) ⊎ ((degree k c ≡ degree k f) × (length c < length f))
      go (inl l) = inl (ltb-true (degree k c) (degree k f) l)
      go (inr b) = inr (eqb-true (degree k c) (degree k f) b.0, ltb-true (length c) (length f) b.1)

  not_better_says : (c f : Poly) → better k c f ≡ false → leader c ≡ suc k →
      (leader f ≡ suc k) × (degree k f ≤ degree k c) × (degree k c ≡ degree k f → length f ≤ length c)
  unfolding better led_by
  not_better_says c f e q =
      let s = false_says (eqb (leader c) (suc k)) (eqb (leader f) (suc k)) (ltb (degree k c) (degree k f)) (eqb (degree k c) (degree k f)) (ltb (length c) (length f)) e
      (eq-eqb (leader c) (suc k) q) in (
        eqb-true (leader f) (suc k) s.0,
        ltb-false (degree k c) (degree k f) s.1,
        λ d. ltb-false (length c) (length f) (s.2 (eq-eqb (degree k c) (degree k f) d)),
      )

  -- ── the pivot ──
  -- Ahead, or the same in degree and terms.
  abbrev NotBehind : Poly → Poly → Type 0
  NotBehind c g = (degree k c < degree k g) ⊎ ((degree k c ≡ degree k g) × (length c ≤ length g))

  -- The one chosen among those behind f does not go ahead of f, and it is not behind g: f, in front, goes ahead of g.
  front_ahead : (f c g : Poly) (i : ℕ) → degree k f ≤ degree k c → (degree k c ≡ degree k f → length f ≤ length c) → NotBehind c g →
      Ahead k (record { place = 0; poly = f }) (record { place = suc i; poly = g })
  front_ahead f c g i h l b = elim (dec_lt (degree k f) (degree k g)) [ yes d ↦ inl d | no d ↦ same b (at_most d) ]
    where
      at_most : ¬ (degree k f < degree k g) → degree k g ≤ degree k f
      at_most d = omega arith

      same : NotBehind c g → degree k g ≤ degree k f → Ahead k (record { place = 0; poly = f }) (record { place = suc i; poly = g })
      same (inl d) e = absurd (omega arith)
      same (inr d) e =
          let terms : length f ≤ length g = omega (arith, l (omega arith), d.1) in
          inr (omega (arith, d.0), elim (dec_lt (length f) (length g)) [ yes m ↦ inl m | no m ↦ inr (equal m terms, omega arith) ])
        where
          equal : ¬ (length f < length g) → length f ≤ length g → length f ≡ length g
          equal m t = omega arith

  -- The choice c, against the member g at place i.
  abbrev FirstOf : Chosen → ℕ → Poly → Type 0
  FirstOf c i g = (leader c.poly ≡ suc k) × (((c.place ≡ i) × (c.poly ≡ g)) ⊎ Ahead k c (record { place = i; poly = g }))

  -- One place further on.
  further : (c : Chosen) (i : ℕ) (g : Poly) → FirstOf c i g → FirstOf (record { place = suc c.place; poly = c.poly }) (suc i) g
  further c i g (l, inl e) = (l, inl (ap suc e.0, e.1))
  further c i g (l, inr (inl d)) = (l, inr (inl d))
  further c i g (l, inr (inr (d, inl t))) = (l, inr (inr (d, inl t)))
  further c i g (l, inr (inr (d, inr (t, p)))) = (l, inr (inr (d, inr (t, omega arith))))

  not_behind : (c : Chosen) (i : ℕ) (g : Poly) → FirstOf c i g → NotBehind c.poly g
  not_behind c i g (l, inl e) = inr (ap (degree k) e.1, subst (λ (h : Poly). length c.poly ≤ length h) e.1 (omega arith))
  not_behind c i g (l, inr (inl d)) = inl d
  not_behind c i g (l, inr (inr (d, inl t))) = inr (d, omega arith)
  not_behind c i g (l, inr (inr (d, inr (t, p)))) = inr (d, omega arith)

  pivot_first : (f : Poly) (fs : List Poly) (i : ℕ) (g : Poly) → At i g (f ∷ fs) → leader g ≡ suc k → FirstOf (pivot k f fs) i g
  unfolding pivot
  pivot_first f [] zero g a l = (ap leader (sym a) ∙ l, inl (refl, sym a))
  pivot_first f [] (suc i) g a l = absurd a
  pivot_first f (h ∷ fs) i g a l = go (pivot k h fs) (λ i a. pivot_first h fs i g a l) (better k (pivot k h fs).poly f) refl i a
    where
      ahead : (c : Chosen) → (degree k c.poly < degree k g) ⊎ ((degree k c.poly ≡ degree k g) × (length c.poly < length g)) → Ahead k (prefer true f c) (record { place = 0; poly = g })
      ahead c (inl d) = inl d
      ahead c (inr d) = inr (d.0, inl d.1)

      go : (c : Chosen) → ((i : ℕ) → At i g (h ∷ fs) → FirstOf c i g) → (b : Bool) → better k c.poly f ≡ b → (i : ℕ) → At i g (f ∷ (h ∷ fs)) → FirstOf (prefer b f c) i g
      go c ih true e zero a =
          let t = better_says c.poly f e in
          (t.0, inr (ahead c (subst (λ (h : Poly). (degree k c.poly < degree k h) ⊎ ((degree k c.poly ≡ degree k h) × (length c.poly < length h))) (sym a) (t.1 (ap leader (sym a) ∙ l)))))
      go c ih true e (suc i) a = further c i g (ih i a)
      go c ih false e zero a = (ap leader (sym a) ∙ l, inl (refl, sym a))
      go c ih false e (suc i) a =
          let u = ih i a in
          let t = not_better_says c.poly f e u.0 in
          (t.0, inr (front_ahead f c.poly g i t.1 t.2 (not_behind c i g u)))

-- Where v(k+1) leads a member g of P, which is f ∷ fs, it leads the pivot, and g is the pivot or stands behind it.
pub pivot_ahead : (f : Poly) (fs : List Poly) (k : ℕ) (g : Chosen) → At g.place g.poly (f ∷ fs) → leader g.poly ≡ suc k →
    (leader (pivot k f fs).poly ≡ suc k) × ((pivot k f fs ≡ g) ⊎ Ahead k (pivot k f fs) g)
pivot_ahead f fs k g a l = go (pivot_first k f fs g.place g.poly a l)
  where
    go : FirstOf k (pivot k f fs) g.place g.poly → (leader (pivot k f fs).poly ≡ suc k) × ((pivot k f fs ≡ g) ⊎ Ahead k (pivot k f fs) g)
    go (s, inl e) = (s, inl (λ i. record { place = e.0 i; poly = e.1 i }))
    go (s, inr h) = (s, inr h)
