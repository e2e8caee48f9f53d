-- The pivot stands in P and is led by the highest leading variable there; what the search for another polynomial led by it finds.
use Rattle.std.specs.Prelude.{◌≡◌, refl, ◌≢◌, ◌⊎◌, List, [], ◌∷◌, Bool, true, false, not, ◌&&◌, ◌||◌, ℕ, zero, suc, ◌-◌, ◌≤◌, max, eqb, ltb, length}
use Rattle.std.proofs.Common.{sym, ◌∙◌, ap, ap₂, inl, inr, suc-ne-zero, arith, eqb-true, eq-eqb, ne_eqb}
use Rattle.std.proofs.lemmas.Bool.{false≢true, eqb-false}
use Rattle.std.proofs.Math.Decide.{ℕ_discrete}
use Rattle.residues.specs.Each.{Each}
use Rattle.residues.specs.laws.Each.{each_map}
use Rattle.polynomials.specs.Poly.{Poly}
use Rattle.polynomials.specs.Division.{degree, leader}
use Rattle.rules.specs.Branch.{highest_leader, led_by, Chosen, better, prefer, pivot, remove, Found, none, found, behind, earliest, other}
use Rattle.rules.proofs.laws.Lists.{At, each_apart}

-- ── the highest leading variable ──
pub leaders_at_most : (fs : List Poly) → Each (λ g. leader g ≤ highest_leader fs) fs
unfolding highest_leader
leaders_at_most [] = tt
leaders_at_most (f ∷ fs) = (omega arith, each_map (λ g. leader g ≤ highest_leader fs) (λ g. leader g ≤ max (leader f) (highest_leader fs)) (λ g h. omega arith) fs (leaders_at_most fs))

none_highest : (k : ℕ) (fs : List Poly) → Each (λ g. leader g ≢ suc k) fs → highest_leader fs ≢ suc k
unfolding highest_leader
none_highest k [] e q = omega arith
none_highest k (f ∷ fs) e q = let n : leader f ≢ suc k = e.0 in let m : highest_leader fs ≢ suc k = none_highest k fs e.1 in omega arith

-- ── the pivot ──
pub pivot_stands : (k : ℕ) (f : Poly) (fs : List Poly) → At (pivot k f fs).place (pivot k f fs).poly (f ∷ fs)
unfolding pivot
pivot_stands k f [] = refl
pivot_stands k f (g ∷ fs) = go (better k (pivot k g fs).poly f) (pivot k g fs) (pivot_stands k g fs)
  where
    go : (b : Bool) (c : Chosen) → At c.place c.poly (g ∷ fs) → At (prefer b f c).place (prefer b f c).poly (f ∷ (g ∷ fs))
    go true c a = a
    go false c a = refl

better_led : (k : ℕ) (g f : Poly) → better k g f ≡ true → leader g ≡ suc k
unfolding better led_by
better_led k g f e = eqb-true (leader g) (suc k) (go (eqb (leader g) (suc k)) _ e)
  where
    go : (a b : Bool) → a && b ≡ true → a ≡ true
    go true b h = refl
    go false b h = h

led_better : (k : ℕ) (g f : Poly) → leader g ≡ suc k → leader f ≢ suc k → better k g f ≡ true
unfolding better led_by
led_better k g f e n =
    ap₂ (λ a b. a && (not b || (ltb (degree k g) (degree k f) || (eqb (degree k g) (degree k f) && ltb (length g) (length f)))))
    (eq-eqb (leader g) (suc k) e) (ne_eqb (leader f) (suc k) n)

pivot_led : (k : ℕ) (f : Poly) (fs : List Poly) → (leader (pivot k f fs).poly ≡ suc k) ⊎ Each (λ g. leader g ≢ suc k) (f ∷ fs)
unfolding pivot
pivot_led k f [] = elim (ℕ_discrete (leader f) (suc k)) [ yes e ↦ inl e | no n ↦ inr (n, tt) ]
pivot_led k f (g ∷ fs) = go (better k (pivot k g fs).poly f) refl (pivot_led k g fs)
  where
    go : (b : Bool) → better k (pivot k g fs).poly f ≡ b → (leader (pivot k g fs).poly ≡ suc k) ⊎ Each (λ g. leader g ≢ suc k) (g ∷ fs) →
        (leader (prefer b f (pivot k g fs)).poly ≡ suc k) ⊎ Each (λ g. leader g ≢ suc k) (f ∷ (g ∷ fs))
    go true e ih = inl (better_led k (pivot k g fs).poly f e)
    go false e ih = elim (ℕ_discrete (leader f) (suc k)) [ yes q ↦ inl q | no n ↦ other_wise n ih ]
      where
        other_wise : leader f ≢ suc k → (leader (pivot k g fs).poly ≡ suc k) ⊎ Each (λ g. leader g ≢ suc k) (g ∷ fs) →
            (leader f ≡ suc k) ⊎ Each (λ g. leader g ≢ suc k) (f ∷ (g ∷ fs))
        other_wise n (inl q) = absurd (false≢true (sym e ∙ led_better k (pivot k g fs).poly f q n))
        other_wise n (inr u) = inr (n, u)

-- "Let vk be the highest leading variable in P. The pivot is the polynomial led by vk .."
pub pivot_leads : (f : Poly) (fs : List Poly) → leader (pivot (highest_leader (f ∷ fs) - 1) f fs).poly ≡ highest_leader (f ∷ fs)
pivot_leads f fs = go (highest_leader (f ∷ fs)) refl
  where
    below : (k : ℕ) → leader (pivot k f fs).poly ≤ highest_leader (f ∷ fs)
    below k = ((each_apart (λ g. leader g ≤ highest_leader (f ∷ fs)) (pivot k f fs).place (pivot k f fs).poly (f ∷ fs) (pivot_stands k f fs)).0 (leaders_at_most (f ∷ fs))).0

    go : (h : ℕ) → highest_leader (f ∷ fs) ≡ h → leader (pivot (h - 1) f fs).poly ≡ h
    go zero e = omega (arith, below (0 - 1))
    go (suc k) e =
        ap (λ (j : ℕ). leader (pivot j f fs).poly) less
        ∙ elim (pivot_led k f fs) [ inl q ↦ q | inr u ↦ absurd (none_highest k (f ∷ fs) u e) ]
      where
        less : suc k - 1 ≡ k
        less = omega arith

-- ── another polynomial led by v(k+1) ──
abbrev EarliestIs : ℕ → List Poly → Found → Type 0
EarliestIs k fs none = Each (λ g. leader g ≢ suc k) fs
EarliestIs k fs (found c) = At c.place c.poly fs × (leader c.poly ≡ suc k)

earliest_is : (k : ℕ) (fs : List Poly) → EarliestIs k fs (earliest k fs)
unfolding earliest led_by
earliest_is k [] = tt
earliest_is k (f ∷ fs) = go (eqb (leader f) (suc k)) (eqb-true (leader f) (suc k)) (eqb-false (leader f) (suc k)) (earliest k fs) (earliest_is k fs)
  where
    go : (b : Bool) → (b ≡ true → leader f ≡ suc k) → (b ≡ false → leader f ≢ suc k) → (o : Found) → EarliestIs k fs o →
        EarliestIs k (f ∷ fs) (elim b [ true ↦ found (record { place = 0; poly = f }) | false ↦ behind o ])
    go true y n o u = (refl, y refl)
    go false y n none u = (n refl, u)
    go false y n (found c) u = u

-- What is found stands elsewhere than the pivot, at place i, and is led by v(k+1); where nothing is, v(k+1) leads none of the others.
abbrev pub OtherIs : ℕ → ℕ → List Poly → Found → Type 0
OtherIs k i fs none = Each (λ g. leader g ≢ suc k) (remove i fs)
OtherIs k i fs (found c) = At c.place c.poly fs × (i ≢ c.place) × (leader c.poly ≡ suc k)

zero_not_suc : (i : ℕ) → 0 ≢ suc i
zero_not_suc i q = omega arith

suc_differ : (i j : ℕ) → i ≢ j → suc i ≢ suc j
suc_differ i j n q = n (omega arith)

pub other_is : (k i : ℕ) (fs : List Poly) → OtherIs k i fs (other k i fs)
unfolding other remove led_by
other_is k i [] = tt
other_is k zero (f ∷ fs) = go (earliest k fs) (earliest_is k fs)
  where
    go : (o : Found) → EarliestIs k fs o → OtherIs k 0 (f ∷ fs) (behind o)
    go none u = u
    go (found c) u = (u.0, zero_not_suc c.place, u.1)
other_is k (suc i) (f ∷ fs) = go (eqb (leader f) (suc k)) (eqb-true (leader f) (suc k)) (eqb-false (leader f) (suc k)) (other k i fs) (other_is k i fs)
  where
    go : (b : Bool) → (b ≡ true → leader f ≡ suc k) → (b ≡ false → leader f ≢ suc k) → (o : Found) → OtherIs k i fs o →
        OtherIs k (suc i) (f ∷ fs) (elim b [ true ↦ found (record { place = 0; poly = f }) | false ↦ behind o ])
    go true y n o u = (refl, suc-ne-zero i, y refl)
    go false y n none u = (n refl, u)
    go false y n (found c) u = (u.0, suc_differ i c.place u.1, u.2)
