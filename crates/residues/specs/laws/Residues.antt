-- The residues modulo p are a commutative ring, and for a prime p a field. The numbers that the code computes are that ring's and that field's.
use Rattle.std.specs.Prelude.{◌≡◌, ◌≢◌, ◌⊎◌}
use Rattle.std.proofs.Math.Path.{refl, sym, ap}
use Rattle.std.proofs.Common.{◌∙◌, inl, inr, mod-lt, mod-eq_of_lt, add_assoc, add_comm, add-zero, mul_assoc, mul_comm, mul-one, mul-add, add-sub_of_le, le_of_lt}
use Prim.Native.Nat.{ℕ, zero, suc, ◌+◌, ◌-◌, ◌*◌, ◌%◌, ◌^◌, ◌≤◌, ◌<◌, Fin}
use Rattle.std.proofs.Math.Nat.{pow-zero, pow-succ', mod-add-mod, add-mod-mod, mod-mod, mod_self, zero-mod}
use Rattle.std.proofs.Math.Decide.{ℕ_discrete}
use native.Mathlib.Fin.{val_path}
use native.Mathlib.Omega.{arith}
use Rattle.residues.specs.Prime.{Prime, is_prime, no_divisor_from}
use Rattle.residues.specs.Residue.{sum, difference, product, inverse}
use Rattle.residues.specs.Field.{CommRing, Field, Contains, cast, pow}
use Rattle.residues.specs.laws.Prime.{is_prime_sound}
use Rattle.residues.specs.laws.Inverse.{mul_mod_l, mul_mod_r, inverse_ok, inverse_lt, euclid_or}

module _ (p : ℕ) (h : 1 ≤ p) where
  abbrev pub residue : ℕ → Fin p
  residue n = (n % p, mod-lt n h)

  -- Nested remainders fall away. Residues are equal where their numbers are (`Fin.val_path`).
  ruleset residues = (mod-add-mod, add-mod-mod, mul_mod_l, mul_mod_r, mod-mod)

  unfoldable pub Residues : CommRing (Fin p)
  Residues = record {
    add = λ a b. residue (a.0 + b.0);
    mul = λ a b. residue (a.0 * b.0);
    neg = λ a. residue (p - a.0);
    nil = residue 0;
    one = residue 1;
    add_assoc = λ a b c. val_path (simp (residues, add_assoc));
    add_comm = λ a b. val_path (ap (λ z. z % p) (add_comm a.0 b.0));
    add_nil = λ a. val_path (simp (residues, add-zero) (mod-eq_of_lt a.1));
    add_neg = λ a. val_path (simp residues (ap (λ z. z % p) (add-sub_of_le (le_of_lt a.1)) ∙ mod_self p ∙ sym (zero-mod p)));
    mul_assoc = λ a b c. val_path (simp (residues, mul_assoc));
    mul_comm = λ a b. val_path (ap (λ z. z % p) (mul_comm a.0 b.0));
    mul_one = λ a. val_path (simp (residues, mul-one) (mod-eq_of_lt a.1));
    mul_add = λ a b c. val_path (simp (residues, mul-add));
  }

  pub cast_residue : (n : ℕ) → cast Residues n ≡ residue n
  unfolding cast Residues
  cast_residue zero = refl
  cast_residue (suc n) = ap (λ z. Residues.add Residues.one z) (cast_residue n) ∙ val_path (simp residues (ap (λ z. z % p) one_plus))
    where
      one_plus : 1 + n ≡ suc n
      one_plus = omega arith

  pub nil_is : Residues.nil.0 ≡ 0
  unfolding Residues
  nil_is = zero-mod p

  pub cast_modulus : cast Residues p ≡ Residues.nil
  unfolding Residues
  cast_modulus = cast_residue p ∙ val_path (mod_self p ∙ sym (zero-mod p))

-- A residue times its inverse is one.
pub prime_field_inverse : (p : ℕ) (P : Prime p) (h : 1 ≤ p) (a : Fin p) → a ≢ residue p h 0 → (Residues p h).mul a (residue p h (inverse p a.0)) ≡ residue p h 1
unfolding Residues
prime_field_inverse p P h a n =
    val_path (mul_mod_r a.0 (inverse p a.0) p ∙ inverse_ok p a.0 P (omega (arith, nonzero)) a.1 ∙ sym (mod-eq_of_lt P.two≤))
  where
    nonzero : a.0 ≢ 0
    nonzero e = n (val_path (e ∙ sym (zero-mod p)))

pub one≤ : {p : ℕ} → Prime p → 1 ≤ p
one≤ P = omega (arith, P.two≤)

-- The prime field of p elements.
unfoldable pub PrimeField : (p : ℕ) → Prime p → Field (Fin p)
unfolding Residues
PrimeField p P = record {
  ring = Residues p (one≤ P);
  inv = λ a. residue p (one≤ P) (inverse p a.0);
  one≢nil = λ e. one_not_zero (sym (mod-eq_of_lt P.two≤) ∙ ap (λ (z : Fin p). z.0) e ∙ zero-mod p);
  zero_or_not = λ a. elim (ℕ_discrete a.0 0) [ yes e ↦ inl (val_path (e ∙ sym (zero-mod p))) | no n ↦ inr (λ e. n (ap (λ (z : Fin p). z.0) e ∙ zero-mod p)) ];
  mul_inv = prime_field_inverse p P (one≤ P);
}
  where
    one_not_zero : ◌≢◌ {A = ℕ} 1 0
    one_not_zero e = omega arith

-- It contains itself: p times 1 is 0.
pub char_prime : (p : ℕ) (P : Prime p) → Contains (PrimeField p P) p
unfolding PrimeField
char_prime p P = cast_modulus p (one≤ P)

-- ── the numbers of `Residue` are those of the ring and of the field ──
module _ (p : ℕ) (h : 1 ≤ p) (a b : Fin p) where
  pub add_is_sum : ((Residues p h).add a b).0 ≡ sum p a.0 b.0
  unfolding Residues sum
  add_is_sum = refl

  pub add_neg_is_difference : ((Residues p h).add a ((Residues p h).neg b)).0 ≡ difference p a.0 b.0
  unfolding Residues difference
  add_neg_is_difference = add-mod-mod a.0 (p - b.0) p

  pub mul_is_product : ((Residues p h).mul a b).0 ≡ product p a.0 b.0
  unfolding Residues product
  mul_is_product = refl

pub inv_is_inverse : (p : ℕ) (P : Prime p) (a : Fin p) → ((PrimeField p P).inv a).0 ≡ inverse p a.0
unfolding PrimeField
inv_is_inverse p P a = mod-eq_of_lt (inverse_lt p a.0 P)

pub pow_is_power : (p : ℕ) (h : 1 ≤ p) (a : Fin p) (n : ℕ) → (pow (Residues p h) a n).0 ≡ a.0 ^ n % p
unfolding pow Residues
pow_is_power p h a zero = rw pow-zero
pow_is_power p h a (suc n) = ap (λ z. a.0 * z % p) (pow_is_power p h a n) ∙ mul_mod_r a.0 (a.0 ^ n) p ∙ ap (λ z. z % p) (sym (pow-succ' a.0 n))

-- A product of residues is zero only if a factor is.
pub product_zero : (p a b : ℕ) → Prime p → a < p → b < p → product p a b ≡ 0 → (a ≡ 0) ⊎ (b ≡ 0)
unfolding product
product_zero p a b P h k e = elim (euclid_or p a b P e) [ inl z ↦ inl (sym (mod-eq_of_lt h) ∙ z) | inr z ↦ inr (sym (mod-eq_of_lt k) ∙ z) ]

-- A prime, by computation.
pub prime_257 : Prime 257
unfolding is_prime no_divisor_from
prime_257 = is_prime_sound 257 tt
