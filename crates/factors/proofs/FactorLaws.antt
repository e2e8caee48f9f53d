-- The factor of a round, written in place: of packed terms, those of the highest power are divided by a power and stand one behind another.
use Rattle.std.specs.Prelude.{◌≡◌, ◌≢◌, List, [], ◌∷◌, ◌++◌, ℕ, zero, suc, ◌+◌, ◌-◌, ◌*◌, ◌%◌, ◌^◌, ◌≤◌, ◌<◌, length, take, get_or, set}
use Rattle.std.proofs.Common.{refl, sym, ◌∙◌, ap, ap₂, subst, le_refl, add-zero, zero-add, append-nil, length-set, arith}
use Rattle.std.proofs.Math.Seq.{get_or-set_other}
use Rattle.polynomials.specs.Poly.{Exponents, join}
use Rattle.polynomials.specs.Division.{degree, coefficient, pure_power, shift, factor}
use Rattle.polynomials.specs.Packed.{bytes, term, terms}
use Rattle.polynomials.specs.declared.Term.{Term as Packed}
use Rattle.polynomials.specs.Working.{Written}
use Rattle.polynomials.specs.laws.Packed.{length_bytes}
use Rattle.polynomials.specs.laws.Parts.{coefficient_append, coefficient_off, cleared, shift_append}
use Rattle.polynomials.specs.laws.Bounds.{degree_small}
use Rattle.terms.proofs.PartLaws.{blank, shifted, terms_next, power_of, lowered, lowered_term, coefficient_next, pushed}

-- A power taken out of a monomial is joined again.
join_power : (k m : ℕ) (e : Exponents) → k < length e → join (pure_power k m) (set e k 0) ≡ set e k m
unfolding join pure_power
join_power k m [] h = absurd (omega arith)
join_power zero m (x ∷ e) h = ap (λ z. z ∷ e) (add-zero m)
join_power (suc k) m (x ∷ e) h = ap₂ ◌∷◌ (zero-add x) (join_power k m e (omega arith))

module _ (k : ℕ) (s : List Packed) (i : ℕ) (inside : i < length s) where
  abbrev t : Packed
  t = get_or s i blank

  coefficient_same : (d : ℕ) → power_of k t ≢ d → coefficient k d (terms (take (i + 1) s)) ≡ coefficient k d (terms (take i s))
  unfolding coefficient
  coefficient_same d n =
      ap (coefficient k d) (terms_next s i blank inside) ∙ coefficient_append k d (terms (take i s)) (term t ∷ []) ∙ ap (λ z. coefficient k d (terms (take i s)) ++ z) (coefficient_off k d (term t) [] n)
      ∙ append-nil (coefficient k d (terms (take i s)))

  module _ (out : List Packed) (l top d : ℕ) (k<8 : k < 8) (room : l < length out) (is_top : top ≡ d * 256 ^ k) where
    -- From terms of the power e.
    factor_next : (e : ℕ) → d ≤ e → power_of k t ≡ e → terms (take l out) ≡ shift k (e - d) (coefficient k e (terms (take i s))) →
        terms (take (l + 1) (set out l (lowered t top))) ≡ shift k (e - d) (coefficient k e (terms (take (i + 1) s)))
    unfolding shift
    factor_next e h q g =
        pushed k s i blank inside out l top d k<8 room is_top
        ∙ ap₂ (λ f u. f ++ (u ∷ [])) g
        (lowered_term k t e d k<8 q h
        ∙ ap (λ z. record { coef = t.coefficient; exps = z }) (sym (join_power k (e - d) (bytes 8 t.monomial) (omega (arith, length_bytes 8 t.monomial)))))
        ∙ sym (ap (shift k (e - d)) (coefficient_next k s i blank inside e q) ∙ shift_append k (e - d) (coefficient k e (terms (take i s))) (cleared k (term t) ∷ []))

-- Of the first i terms of s, those of v(k+1)^e are divided by v(k+1)^d, and stand first in r, l of them; the terms from i on are those of s.
pub record Divided (k d e : ℕ) (s r : List Packed) (i l : ℕ) : Type 0 where
  pub passed : l ≤ i
  pub same_length : length r ≡ length s
  pub unread : (j : ℕ) → i ≤ j → get_or r j blank ≡ get_or s j blank
  pub divided : terms (take l r) ≡ shift k (e - d) (coefficient k e (terms (take i s)))

pub divided_as : {k d e : ℕ} {s r r' : List Packed} {i l l' : ℕ} → r ≡ r' → l ≡ l' → Divided k d e s r' i l' → Divided k d e s r i l
divided_as {k} {d} {e} {s} {r} {r'} {i} {l} {l'} q z D = subst (λ x. Divided k d e s x i l) (sym q) (subst (λ x. Divided k d e s r' i x) (sym z) D)

-- The divisor's power, shifted to its place, which is read as j.
pub power_shifted : (k j d e : ℕ) (s : List Packed) → j ≡ k → k < 8 → d ≤ e → degree k (terms s) ≡ e → d * 2 ^ (8 * j) % 18446744073709551616 ≡ d * 256 ^ k
power_shifted k j d e s u h l q = shifted j d (omega arith) (omega (arith, degree_small k s)) ∙ ap (λ i. d * 256 ^ i) u

module _ (k d e : ℕ) (s : List Packed) where
  pub divided_none : Divided k d e s s 0 0
  unfolding terms coefficient shift
  divided_none = record { passed = omega arith; same_length = refl; unread = λ j u. refl; divided = refl }

  module _ (k<8 : k < 8) (d≤e : d ≤ e) (top : ℕ) (is_top : top ≡ d * 256 ^ k) (r : List Packed) (i l : ℕ) (inside : i < length s) (D : Divided k d e s r i l) where
    pub divided_next : power_of k (get_or r i blank) ≡ e → Divided k d e s (set r l (lowered (get_or r i blank) top)) (i + 1) (l + 1)
    divided_next q = record {
      passed = omega (arith, D.passed);
      same_length = simp length-set D.same_length;
      unread = λ j m. get_or-set_other r l j (lowered (get_or r i blank) top) blank (λ z. omega (arith, D.passed)) ∙ D.unread j (omega arith);
      divided =
          ap (λ x. terms (take (l + 1) (set r l (lowered x top)))) (D.unread i (le_refl i))
          ∙ factor_next k s i inside r l top d k<8 (omega (arith, D.passed, D.same_length)) is_top e d≤e (sym (ap (power_of k) (D.unread i (le_refl i))) ∙ q) D.divided;
    }

    pub divided_same : power_of k (get_or r i blank) ≢ e → Divided k d e s r (i + 1) l
    divided_same n = record {
      passed = omega (arith, D.passed);
      same_length = D.same_length;
      unread = λ j m. D.unread j (omega arith);
      divided = D.divided ∙ ap (shift k (e - d)) (sym (coefficient_same k s i inside e (λ q. n (ap (power_of k) (D.unread i (le_refl i)) ∙ q))));
    }

  pub divided_all : (r : List Packed) (n l : ℕ) → Divided k d e s r n l → n ≤ length s → degree k (terms (take n s)) ≡ e → Written (factor k d (terms (take n s))) l r
  unfolding factor
  divided_all r n l D h q = record {
    within = omega (arith, D.passed, D.same_length);
    holds = D.divided ∙ ap (λ m. shift k (m - d) (coefficient k m (terms (take n s)))) (sym q);
  }
