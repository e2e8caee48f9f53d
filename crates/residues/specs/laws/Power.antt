-- Powers under a remainder: the steps of a power by the bits of its exponent.
use Rattle.std.specs.Prelude.{◌≡◌, ◌≢◌, ℕ, zero, suc, ◌+◌, ◌*◌, ◌/◌, ◌%◌, ◌^◌, ◌≤◌, ◌<◌}
use Rattle.std.proofs.Common.{sym, ◌∙◌, ap, mod-lt, pow-suc, mul_assoc, one-mul, arith}
use Rattle.std.proofs.Math.Nat.{pow-zero, pow-succ'}
use Rattle.residues.specs.laws.Inverse.{mul_mod_l, mul_mod_r}

pub pow_one : (b : ℕ) → b ^ 1 ≡ b
pow_one b = pow-suc b 0 ∙ ap (λ z. z * b) (pow-zero b) ∙ one-mul b

pow_mod : (b k m : ℕ) → (b % m) ^ k % m ≡ b ^ k % m
pow_mod b zero m = rw (pow-zero (b % m), pow-zero b)
pow_mod b (suc k) m =
    ap (λ z. z % m) (pow-suc (b % m) k) ∙ mul_mod_r ((b % m) ^ k) b m ∙ sym (mul_mod_l ((b % m) ^ k) b m) ∙ ap (λ z. z * b % m) (pow_mod b k m)
    ∙ mul_mod_l (b ^ k) b m ∙ ap (λ z. z % m) (sym (pow-suc b k))

square_pow : (b k : ℕ) → (b * b) ^ k ≡ b ^ (k + k)
square_pow b zero = pow-zero (b * b) ∙ sym (pow-zero b)
square_pow b (suc k) =
    pow-suc (b * b) k ∙ ap (λ z. z * (b * b)) (square_pow b k) ∙ sym (mul_assoc (b ^ (k + k)) b b) ∙ ap (λ z. z * b) (sym (pow-suc b (k + k)))
    ∙ sym (pow-suc b (suc (k + k))) ∙ ap (λ z. b ^ z) twice
  where
    twice : suc (suc (k + k)) ≡ suc k + suc k
    twice = omega arith

squared : (p r b k : ℕ) → r * (b * b % p) ^ k % p ≡ r * b ^ (k + k) % p
squared p r b k =
    sym (mul_mod_r r ((b * b % p) ^ k) p) ∙ ap (λ z. r * z % p) (pow_mod (b * b) k p ∙ ap (λ z. z % p) (square_pow b k)) ∙ mul_mod_r r (b ^ (k + k)) p

-- s is a residue that stands for r where the base b has been squared and the exponent k halved.
abbrev pub Halved : ℕ → ℕ → ℕ → ℕ → ℕ → Type 0
Halved p r b k s = (s < p) × (s * (b * b % p) ^ (k / 2) % p ≡ r * b ^ k % p)

pub halved_even : (p r b k s : ℕ) → k % 2 ≢ 1 → r < p → s ≡ r → Halved p r b k s
halved_even p r b k s h l e = rw e (l, squared p r b (k / 2) ∙ ap (λ z. r * b ^ z % p) twice)
  where
    twice : k / 2 + k / 2 ≡ k
    twice = omega arith

pub halved_odd : (p r b k s : ℕ) → k % 2 ≡ 1 → 1 ≤ p → s ≡ r * b % p → Halved p r b k s
halved_odd p r b k s h l e =
    rw e (
      mod-lt (r * b) l,
      mul_mod_l (r * b) ((b * b % p) ^ (k / 2)) p ∙ squared p (r * b) b (k / 2) ∙ ap (λ z. z % p) (mul_assoc r b (b ^ (k / 2 + k / 2)))
          ∙ ap (λ z. r * z % p) (sym (pow-succ' b (k / 2 + k / 2))) ∙ ap (λ z. r * b ^ z % p) twice,
    )
  where
    twice : suc (k / 2 + k / 2) ≡ k
    twice = omega arith
