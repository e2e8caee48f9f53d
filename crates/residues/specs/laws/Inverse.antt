-- Products under a remainder; the inverse of a residue modulo a prime, and Euclid's lemma from it.
use Rattle.std.specs.Prelude.{◌≡◌, ◌≢◌, ◌⊎◌, Bool, true, false, not, ℕ, zero, suc, ◌+◌, ◌-◌, ◌*◌, ◌/◌, ◌%◌, ◌≤◌, ◌<◌, T, ltb}
use Rattle.std.proofs.Common.{sym, ◌∙◌, ap, inl, inr, mod-lt, mod-eq_of_lt, mul_comm, mul_assoc, mul_right_comm, mul-one, one-mul, zero-mul, div-le_self, arith, ltb→lt, nltb→le}
use Rattle.std.proofs.Math.Nat.{mod-add-div, add-mul-mod_self_left, add-mod_right, zero-mod}
use Rattle.std.proofs.Math.Decide.{ℕ_discrete}
use Rattle.residues.specs.Prime.{Prime}
use Rattle.residues.specs.Residue.{inverse, inverse_from}

pub mul_mod_l : (a b m : ℕ) → (a % m * b) % m ≡ (a * b) % m
mul_mod_l a b m =
    sym (add-mul-mod_self_left (a % m * b) m (a / m * b)) ∙ ap (λ z. z % m) e
  where
    e : a % m * b + m * (a / m * b) ≡ a * b
    e = let h : (a % m + m * (a / m)) * b ≡ a * b = ap (λ z. z * b) (mod-add-div a m) in omega arith

pub mul_mod_r : (a b m : ℕ) → (a * (b % m)) % m ≡ (a * b) % m
mul_mod_r a b m = ap (λ z. z % m) (mul_comm a (b % m)) ∙ mul_mod_l b a m ∙ ap (λ z. z % m) (mul_comm b a)

-- ── the inverse ──
-- one step: a * (p - p / a) leaves p % a
step_residue : (p a : ℕ) → 1 ≤ a → a < p → (a * (p - p / a)) % p ≡ p % a
step_residue p a h l =
    sym (add-mod_right (a * (p - p / a)) p) ∙ ap (λ z. z % p) e ∙ add-mul-mod_self_left (p % a) p a ∙ mod-eq_of_lt (omega (arith, mod-lt p h))
  where
    e : a * (p - p / a) + p ≡ p % a + p * a
    e = let d : p % a + a * (p / a) ≡ p = mod-add-div p a in
        let s : p - p / a + p / a ≡ p = omega (arith, div-le_self p a) in
        let m : a * (p - p / a + p / a) ≡ a * p = ap (λ z. a * z) s in
        omega arith

-- the invariant b * t ≡ a, one step on
pub inverse_step : (p b a t : ℕ) → 1 ≤ a → a < p → (b * t) % p ≡ a → (b * (t * (p - p / a) % p)) % p ≡ p % a
inverse_step p b a t h l e =
    mul_mod_r b (t * (p - p / a)) p ∙ ap (λ z. z % p) (sym (mul_assoc b t (p - p / a))) ∙ sym (mul_mod_l (b * t) (p - p / a) p)
    ∙ ap (λ z. (z * (p - p / a)) % p) e ∙ step_residue p a h l

inverse_from_ok : (p b : ℕ) → Prime p → (k a t : ℕ) → 1 ≤ a → a < p → a ≤ k → (b * t) % p ≡ a → (b * inverse_from k p a t) % p ≡ 1
unfolding inverse_from
inverse_from_ok p b P zero a t h l f e = absurd (omega arith)
inverse_from_ok p b P (suc k) a t h l f e = go (inverse_from_ok p b P k (p % a) (t * (p - p / a) % p)) (ltb 1 a) (ltb→lt 1 a) (nltb→le 1 a)
  where
    go : (1 ≤ p % a → p % a < p → p % a ≤ k → (b * (t * (p - p / a) % p)) % p ≡ p % a → (b * inverse_from k p (p % a) (t * (p - p / a) % p)) % p ≡ 1) →
        (c : Bool) → (T c → 1 < a) → (T (not c) → a ≤ 1) →
        (b * elim c [ true ↦ inverse_from k p (p % a) (t * (p - p / a) % p) | false ↦ t ]) % p ≡ 1
    go ih true u v =
        let a2 : 2 ≤ a = u tt in
        let r≢ : p % a ≢ 0 = P.no_divisor a a2 l in
        let r< : p % a < a = mod-lt p h in
        ih (omega arith) (omega arith) (omega arith) (inverse_step p b a t h l e)
    go ih false u v = e ∙ omega (arith, v tt)

pub inverse_ok : (p b : ℕ) → Prime p → 1 ≤ b → b < p → (b * inverse p b) % p ≡ 1
unfolding inverse
inverse_ok p b P h l = inverse_from_ok p b P b b 1 h l (omega arith) (ap (λ z. z % p) (mul-one b) ∙ mod-eq_of_lt l)

-- there is only one inverse below p
pub inverse_unique : (p b x y : ℕ) → x < p → y < p → (b * x) % p ≡ 1 → (b * y) % p ≡ 1 → x ≡ y
inverse_unique p b x y h k e f =
    sym (mod-eq_of_lt h) ∙ ap (λ z. z % p) (sym (one-mul x)) ∙ ap (λ z. (z * x) % p) (sym f) ∙ mul_mod_l (b * y) x p ∙ ap (λ z. z % p) turn
    ∙ sym (mul_mod_l (b * x) y p) ∙ ap (λ z. (z * y) % p) e ∙ ap (λ z. z % p) (one-mul y) ∙ mod-eq_of_lt k
  where
    turn : b * y * x ≡ b * x * y
    turn = omega arith

inverse_from_lt : (p : ℕ) → 1 ≤ p → (k a t : ℕ) → t < p → inverse_from k p a t < p
unfolding inverse_from
inverse_from_lt p h zero a t l = l
inverse_from_lt p h (suc k) a t l = go (inverse_from_lt p h k (p % a) (t * (p - p / a) % p) (mod-lt _ h)) (ltb 1 a)
  where
    go : inverse_from k p (p % a) (t * (p - p / a) % p) < p → (c : Bool) → elim c [ true ↦ inverse_from k p (p % a) (t * (p - p / a) % p) | false ↦ t ] < p
    go ih true = ih
    go ih false = l

pub inverse_lt : (p b : ℕ) → Prime p → inverse p b < p
unfolding inverse
inverse_lt p b P = inverse_from_lt p (omega (arith, P.two≤)) b b 1 P.two≤

-- Euclid's lemma, from the inverse
pub euclid : (p a b : ℕ) → Prime p → (a * b) % p ≡ 0 → a % p ≢ 0 → b % p ≡ 0
euclid p a b P e n =
    let p0 : 1 ≤ p = omega (arith, P.two≤) in
    let i = inverse p (a % p) in
    let u : (a % p * i) % p ≡ 1 = inverse_ok p (a % p) P (omega arith) (mod-lt a p0) in
    ap (λ z. z % p) (sym (one-mul b)) ∙ ap (λ z. (z * b) % p) (sym u) ∙ mul_mod_l (a % p * i) b p
    ∙ ap (λ z. z % p) (mul_right_comm (a % p) i b) ∙ sym (mul_mod_l (a % p * b) i p) ∙ ap (λ z. (z * i) % p) (mul_mod_l a b p ∙ e)
    ∙ ap (λ z. z % p) (zero-mul i) ∙ zero-mod p

pub euclid_or : (p a b : ℕ) → Prime p → (a * b) % p ≡ 0 → (a % p ≡ 0) ⊎ (b % p ≡ 0)
euclid_or p a b P e = elim (ℕ_discrete (a % p) 0) [ yes h ↦ inl h | no h ↦ inr (euclid p a b P e h) ]
