-- The leading variable of a packed monomial: how many bytes it takes.
use Rattle.std.specs.Prelude.{◌≡◌, refl, Bool, true, false, List, ◌∷◌, ℕ, zero, suc, ◌+◌, ◌/◌, ◌%◌, ◌^◌, ◌≤◌, ◌<◌, T, eqb}
use Rattle.std.proofs.Common.{sym, ◌∙◌, ap, subst, pow-suc, div-lt_iff_lt-mul, arith, eqb→eq}
use Rattle.std.proofs.Math.Decide.{ℕ_discrete}
use Rattle.polynomials.specs.Division.{highest}
use Rattle.polynomials.specs.Packed.{bytes}

-- How many bytes m takes, of n.
unfoldable pub bytes_taken : ℕ → ℕ → ℕ
bytes_taken zero m = 0
bytes_taken (suc n) zero = 0
bytes_taken (suc n) (suc m) = suc (bytes_taken n (suc m / 256))

taken_zero : (n : ℕ) → bytes_taken n 0 ≡ 0
unfolding bytes_taken
taken_zero zero = refl
taken_zero (suc n) = refl

taken_more : (n m : ℕ) → 1 ≤ m → bytes_taken (suc n) m ≡ suc (bytes_taken n (m / 256))
unfolding bytes_taken
taken_more n zero h = absurd (omega arith)
taken_more n (suc m) h = refl

-- The highest place, by the lowest exponent and the highest place of the others.
abbrev above : ℕ → ℕ → ℕ
above b zero = elim (eqb b 0) [ true ↦ 0 | false ↦ 1 ]
above b (suc k) = suc (suc k)

highest_cons : (b : ℕ) (e : List ℕ) → highest (b ∷ e) ≡ above b (highest e)
unfolding highest
highest_cons b e = go (highest e)
  where
    go : (k : ℕ) → (elim k as (λ k. ℕ) [ zero ↦ elim (eqb b 0) [ true ↦ 0 | false ↦ 1 ] | suc k ↦ suc (suc k) ]) ≡ above b k
    go zero = refl
    go (suc k) = refl

above_some : (b : ℕ) → 1 ≤ b → above b 0 ≡ 1
above_some b h = go (eqb b 0) (eqb→eq b 0)
  where
    go : (c : Bool) → (T c → b ≡ 0) → ◌≡◌ {A = ℕ} (elim c [ true ↦ 0 | false ↦ 1 ]) 1
    go true z = let e : b ≡ 0 = z tt in absurd (omega arith)
    go false z = refl

-- Of a number that n bytes hold, the highest place other than 0 is the number of bytes that it takes.
highest_bytes : (n m : ℕ) → m < 256 ^ n → highest (bytes n m) ≡ bytes_taken n m
unfolding bytes highest bytes_taken
highest_bytes zero m h = refl
highest_bytes (suc n) m h = highest_cons (m % 256) (bytes n (m / 256)) ∙ ap (above (m % 256)) (highest_bytes n (m / 256) small) ∙ step n m small
  where
    small : m / 256 < 256 ^ n
    small = (div-lt_iff_lt-mul {k = 256} (omega arith)).1 (subst (λ (z : ℕ). m < z) (pow-suc 256 n) h)

    step : (n m : ℕ) → m / 256 < 256 ^ n → above (m % 256) (bytes_taken n (m / 256)) ≡ bytes_taken (suc n) m
    step n m l = elim (ℕ_discrete m 0) [
      | yes e ↦ ap (λ (z : ℕ). above (z % 256) (bytes_taken n (z / 256))) e ∙ ap (above 0) (taken_zero n) ∙ sym (ap (bytes_taken (suc n)) e ∙ taken_zero (suc n))
      | no u ↦ some n m (omega arith) l ∙ sym (taken_more n m (omega arith))
    ]
      where
        some : (n m : ℕ) → 1 ≤ m → m / 256 < 256 ^ n → above (m % 256) (bytes_taken n (m / 256)) ≡ suc (bytes_taken n (m / 256))
        some n m h l = elim (ℕ_discrete (m / 256) 0) [
          | yes e ↦ ap (λ (z : ℕ). above (m % 256) (bytes_taken n z)) e ∙ ap (above (m % 256)) (taken_zero n)
              ∙ above_some (m % 256) (omega arith) ∙ sym (ap (λ (z : ℕ). suc (bytes_taken n z)) e ∙ ap suc (taken_zero n))
          | no u ↦ more n m (omega arith) l
        ]
          where
            more : (n m : ℕ) → 1 ≤ m / 256 → m / 256 < 256 ^ n → above (m % 256) (bytes_taken n (m / 256)) ≡ suc (bytes_taken n (m / 256))
            more zero m g l = absurd (omega arith)
            more (suc n) m g l = ap (above (m % 256)) (taken_more n (m / 256) g) ∙ sym (ap suc (taken_more n (m / 256) g))

-- What is left of m behind k bytes, with n more.
pub record Behind (m left k : ℕ) : Type 0 where
  pub more : ℕ
  pub places : k + more ≡ 8
  pub small : left < 256 ^ more
  pub sum : k + bytes_taken more left ≡ bytes_taken 8 m

pub behind_next : (m left k : ℕ) → 1 ≤ left → Behind m left k → Behind m (left / 256) (k + 1)
behind_next m left k h b = go b.more b.places b.small b.sum
  where
    go : (n : ℕ) → k + n ≡ 8 → left < 256 ^ n → k + bytes_taken n left ≡ bytes_taken 8 m → Behind m (left / 256) (k + 1)
    go zero e l s = absurd (omega arith)
    go (suc n) e l s = record {
      more = n;
      places = omega arith;
      small = (div-lt_iff_lt-mul {k = 256} (omega arith)).1 (subst (λ (z : ℕ). left < z) (pow-suc 256 n) l);
      sum = omega (arith, s, taken_more n left h);
    }

pub behind_end : (m k : ℕ) → m < 256 ^ 8 → Behind m 0 k → k ≡ highest (bytes 8 m)
behind_end m k h b = omega (arith, b.sum, taken_zero b.more, highest_bytes 8 m h)
