-- The test `is_prime` is true exactly for primes.
use Rattle.std.specs.Prelude.{◌≡◌, ◌≢◌, Bool, true, false, ℕ, zero, suc, ◌+◌, ◌-◌, ◌%◌, ◌≤◌, ◌<◌, T, leb, ltb, eqb}
use Rattle.std.proofs.Common.{sym, ◌∙◌, ap, subst, inl, inr, eq-or-lt_of_le, arith, eqb→eq, leb→le, le→leb, ltb-true, lt-ltb}
use Rattle.std.proofs.Math.Bool.{and-eq-true_iff}
use Rattle.std.proofs.Math.Dec.{eqb_refl}
use Rattle.residues.specs.Prime.{Prime, no_divisor_from, is_prime, is_modulus}
use Rattle.residues.specs.laws.Booleans.{and_T, and_l, and_r, true_of}

no_divisor_sound : (k d p : ℕ) → T (no_divisor_from k d p) → (e : ℕ) → d ≤ e → e < d + k → p % e ≢ 0
unfolding no_divisor_from
no_divisor_sound zero d p t e h l = absurd (omega arith)
no_divisor_sound (suc k) d p t e h l = go (no_divisor_sound k (suc d) p) (eqb (p % d) 0) (λ z. subst (λ x. T (eqb x 0)) (sym z) (eqb_refl 0)) t
  where
    go : (T (no_divisor_from k (suc d) p) → (e : ℕ) → suc d ≤ e → e < suc d + k → p % e ≢ 0) →
        (c : Bool) → (p % d ≡ 0 → T c) → T (elim c [ true ↦ false | false ↦ no_divisor_from k (suc d) p ]) → p % e ≢ 0
    go ih true u s = absurd s
    go ih false u s = elim (eq-or-lt_of_le h) [ inl q ↦ (λ z. u (ap (λ x. p % x) q ∙ z)) | inr q ↦ ih s e q (omega arith) ]

no_divisor_complete : (k d p : ℕ) → ((e : ℕ) → d ≤ e → e < d + k → p % e ≢ 0) → T (no_divisor_from k d p)
unfolding no_divisor_from
no_divisor_complete zero d p f = tt
no_divisor_complete (suc k) d p f = go (no_divisor_complete k (suc d) p (λ e h l. f e (omega arith) (omega arith))) (eqb (p % d) 0) (eqb→eq (p % d) 0)
  where
    go : T (no_divisor_from k (suc d) p) → (c : Bool) → (T c → p % d ≡ 0) → T (elim c [ true ↦ false | false ↦ no_divisor_from k (suc d) p ])
    go ih true u = f d (omega arith) (omega arith) (u tt)
    go ih false u = ih

pub is_prime_sound : (p : ℕ) → T (is_prime p) → Prime p
unfolding is_prime
is_prime_sound p t =
    let h : 2 ≤ p = leb→le 2 p (and_l (leb 2 p) _ t) in
    record { two≤ = h; no_divisor = λ d h2 l. no_divisor_sound (p - 2) 2 p (and_r (leb 2 p) _ t) d h2 (omega arith) }

pub is_prime_complete : (p : ℕ) → Prime p → T (is_prime p)
unfolding is_prime
is_prime_complete p P =
    let h : 2 ≤ p = P.two≤ in
    and_T (leb 2 p) _ (le→leb 2 p h) (no_divisor_complete (p - 2) 2 p (λ e h2 l. P.no_divisor e h2 (omega arith)))

-- What reading asks of p.
pub modulus_prime : (p : ℕ) → is_modulus p ≡ true → Prime p × (p < 2147483648)
unfolding is_modulus
modulus_prime p h =
    let k = (and-eq-true_iff (ltb p 2147483648) (is_prime p)).0 h in
    (is_prime_sound p (subst T (sym k.1) tt), ltb-true p 2147483648 k.0)

pub prime_modulus : (p : ℕ) → Prime p → p < 2147483648 → is_modulus p ≡ true
unfolding is_modulus
prime_modulus p P h = (and-eq-true_iff (ltb p 2147483648) (is_prime p)).1 (lt-ltb p 2147483648 h, sym (true_of (is_prime p) (is_prime_complete p P)))
