-- Values modulo p by parts: a coordinate with its exponent taken off a monomial, a term taken off a polynomial.
use Rattle.std.specs.Prelude.{◌≡◌, List, [], ◌∷◌, ℕ, zero, suc, ◌+◌, ◌*◌, ◌/◌, ◌%◌, ◌^◌, ◌≤◌, ◌<◌, length, drop, get_or}
use Rattle.std.proofs.Common.{refl, sym, ◌∙◌, ap, ap₂, subst, arith, add-one, zero-add, add-zero, mul-one, drop-cons}
use Rattle.std.proofs.Math.Nat.{mul_assoc, pow-zero, add-mod-mod, mod-add-mod, mod-eq_of_lt}
use Rattle.std.proofs.Math.ListN.{drop_of_length-le}
use Rattle.residues.specs.laws.Inverse.{mul_mod_l, mul_mod_r}
use Rattle.polynomials.specs.Packed.{bytes, terms}
use Rattle.polynomials.specs.declared.Term.{Term as Packed}
use Rattle.polynomials.specs.Canonical.{Canonical}
use Rattle.polynomials.specs.Value.{monomial_valueℕ, valueℕ, value_modulo}
use Rattle.polynomials.specs.laws.Packed.{fewer_bytes}
use Rattle.polynomials.specs.laws.Terms.{terms_at}

-- ── a term ──
-- v times what is left of a term's value: the coordinates from i on, to the n bytes of e.
abbrev pub term_rest : ℕ → List ℕ → ℕ → ℕ → ℕ → ℕ → ℕ
term_rest p xs i n e v = v * monomial_valueℕ (drop i xs) (bytes n e) % p

-- A number other than 0 has a byte.
pub has_byte : (n e : ℕ) → 0 < e → e < 256 ^ n → 1 ≤ n
has_byte zero e l b = absurd (omega arith)
has_byte (suc n) e l b = omega arith

pub bytes_above : (n k e : ℕ) → n ≡ suc k → e < 256 ^ n → e / 256 < 256 ^ k
bytes_above n k e s b = fewer_bytes k e (subst (λ z. e < 256 ^ z) s b)

-- The coordinate at i, to the lowest of n bytes.
module _ (p : ℕ) (xs : List ℕ) (i n k e v : ℕ) (h : i < length xs) (s : n ≡ suc k) where
  first_byte : monomial_valueℕ (drop i xs) (bytes n e) ≡ get_or xs i 0 ^ (e % 256) * monomial_valueℕ (drop (i + 1) xs) (bytes k (e / 256))
  unfolding monomial_valueℕ bytes
  first_byte = rw (s, add-one, drop-cons xs i 0)

  pub term_rest_next : term_rest p xs i n e v ≡ term_rest p xs (i + 1) k (e / 256) (v * (get_or xs i 0 ^ (e % 256) % p) % p)
  term_rest_next = ap (λ z. v * z % p) first_byte ∙ regroup (get_or xs i 0 ^ (e % 256)) (monomial_valueℕ (drop (i + 1) xs) (bytes k (e / 256)))
    where
      regroup : (q r : ℕ) → v * (q * r) % p ≡ v * (q % p) % p * r % p
      regroup q r =
          ap (λ z. z % p) (sym (mul_assoc v q r)) ∙ sym (mul_mod_l (v * q) r p) ∙ ap (λ z. z * r % p) (sym (mul_mod_r v q p))

-- No coordinate is left.
pub term_rest_end : (p : ℕ) (xs : List ℕ) (i n e v : ℕ) → v < p → length xs ≤ i → term_rest p xs i n e v ≡ v
unfolding monomial_valueℕ
term_rest_end p xs i n e v l h = ap (λ (z : List ℕ). v * monomial_valueℕ z (bytes n e) % p) (drop_of_length-le xs h) ∙ ap (λ z. z % p) (mul-one v) ∙ mod-eq_of_lt l

-- Every exponent left is 0.
zero_exponents : (xs : List ℕ) (n : ℕ) → monomial_valueℕ xs (bytes n 0) ≡ 1
unfolding monomial_valueℕ bytes
zero_exponents [] n = refl
zero_exponents (x ∷ xs) zero = refl
zero_exponents (x ∷ xs) (suc n) = ap₂ ◌*◌ (pow-zero x) (zero_exponents xs n)

pub term_rest_zero : (p : ℕ) (xs : List ℕ) (i n v : ℕ) → v < p → term_rest p xs i n 0 v ≡ v
term_rest_zero p xs i n v l = ap (λ z. v * z % p) (zero_exponents (drop i xs) n) ∙ ap (λ z. z % p) (mul-one v) ∙ mod-eq_of_lt l

-- ── a polynomial ──
-- v plus what is left of a polynomial's value: the terms from i on.
abbrev pub value_rest : ℕ → List Packed → List ℕ → ℕ → ℕ → ℕ
value_rest p f xs i v = (v + valueℕ (terms (drop i f)) xs) % p

module _ (p : ℕ) (f : List Packed) (i : ℕ) (t : Packed) (h : i < length f) where
  pub value_rest_next : (xs : List ℕ) (v : ℕ) → value_rest p f xs i v ≡ value_rest p f xs (i + 1) ((v + (get_or f i t).coefficient * monomial_valueℕ xs (bytes 8 (get_or f i t).monomial) % p) % p)
  unfolding valueℕ
  value_rest_next xs v = ap (λ z. (v + valueℕ z xs) % p) (terms_at f i t h) ∙ regroup ((get_or f i t).coefficient * monomial_valueℕ xs (bytes 8 (get_or f i t).monomial)) (valueℕ (terms (drop (i + 1) f)) xs)
    where
      regroup : (q r : ℕ) → (v + (q + r)) % p ≡ ((v + q % p) % p + r) % p
      regroup q r = ap (λ z. z % p) (omega arith) ∙ sym (mod-add-mod (v + q) p r) ∙ ap (λ z. (z + r) % p) (sym (add-mod-mod v q p))

  -- The coefficient at i is a residue, and the terms behind it are canonical.
  pub canonical_at : Canonical p (terms (drop i f)) → ((get_or f i t).coefficient < p) × Canonical p (terms (drop (i + 1) f))
  canonical_at k = let l = subst (Canonical p) (terms_at f i t h) k in (l.1, l.3)

pub value_rest_end : (p : ℕ) (f : List Packed) (xs : List ℕ) (i v : ℕ) → v < p → length f ≤ i → value_rest p f xs i v ≡ v
unfolding valueℕ terms
value_rest_end p f xs i v l h = ap (λ (z : List Packed). (v + valueℕ (terms z) xs) % p) (drop_of_length-le f h) ∙ ap (λ z. z % p) (add-zero v) ∙ mod-eq_of_lt l

pub value_rest_start : (p : ℕ) (f : List Packed) (xs : List ℕ) → value_rest p f xs 0 0 ≡ value_modulo p (terms f) xs
unfolding value_modulo
value_rest_start p f xs = ap (λ z. z % p) (zero-add (valueℕ (terms f) xs))
