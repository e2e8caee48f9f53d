-- The prime test by products: what the product of the candidates tells of p, though it is kept modulo p only, and but for powers of 2^32.
use Rattle.std.specs.Prelude.{◌≡◌, ◌≢◌, ◌⊎◌, ◌↔◌, IsTrue, Bool, true, false, List, [], ◌∷◌, ℕ, ◌+◌, ◌-◌, ◌*◌, ◌%◌, ◌≤◌, ◌<◌, slice_index}
use Rattle.std.proofs.Common.{refl, inl, inr, ap, ⊎_elim, eq-or-lt_of_le, arith, rules}
use Rattle.std.specs.Int.{◌∣◌, IsGcd}
use Rattle.std.proofs.Math.Nat.{one-dvd, eq-one_of_dvd-one, eq-zero_of_zero-dvd, le_of_dvd, dvd_refl, dvd-mul_left, dvd-mul_right, dvd-mul_left_of_dvd, dvd-mul_right_of_dvd, dvd-mod_iff, mod-eq-zero_of_dvd, dvd_of_mod-eq-zero}
use Rattle.std.proofs.lemmas.Bool.{false≢true}
use Rattle.std.proofs.lemmas.List.Elements.{AllWithin-from_all}
use Rattle.std.proofs.Math.Decide.{dec_lt}
use Rattle.residues.specs.Prime.{Prime, is_prime}
use Rattle.residues.specs.laws.Booleans.{false_of}
use Rattle.residues.specs.laws.Inverse.{euclid_or}
use Rattle.residues.specs.laws.Prime.{is_prime_sound}
use Rattle.wheel.specs.Wheel.{Coprime30}
use Rattle.primes.specs.Gathered.{Gathered, GatheredAt, AllGathered}
use Rattle.primes.specs.declared.TheConstants.{NEAR}
use Rattle.montgomery.specs.Montgomery.{NegatedInverse, Reduced}
use Rattle.montgomery.specs.laws.Montgomery.{reduced_divided, divided_reduced}
use Rattle.wheel.specs.laws.Root.{root_below, test_yes}
use Rattle.wheel.specs.laws.Wheel.{remainders, of_remainders, coprime_divisor}

-- ── what a prime does not divide ──
prime_product : (p a b : ℕ) → Prime p → ¬ (p ∣ a) → ¬ (p ∣ b) → ¬ (p ∣ a * b)
prime_product p a b P h k d = ⊎_elim (λ z. h (dvd_of_mod-eq-zero p z)) (λ z. k (dvd_of_mod-eq-zero p z)) (euclid_or p a b P (mod-eq-zero_of_dvd p d))

below_undivided : (p a : ℕ) → 1 ≤ a → a < p → ¬ (p ∣ a)
below_undivided p a h l d = let k : p ≤ a = le_of_dvd h d in omega arith

-- a prime that does not divide a has no divisor but 1 in common with it
prime_gcd : (p a : ℕ) → Prime p → ¬ (p ∣ a) → IsGcd p a 1
prime_gcd p a P n = (one-dvd p, one-dvd a, λ d k m. rw (one d k m) (dvd_refl 1))
  where
    one : (d : ℕ) → d ∣ p → d ∣ a → d ≡ 1
    one d k m =
        let some : d ≢ 0 = λ z. let q : p ≡ 0 = eq-zero_of_zero-dvd (rw z at k) in omega (arith, P.two≤) in
        elim (eq-or-lt_of_le (le_of_dvd (omega (arith, P.two≤)) k)) [
          | inl q ↦ absurd (n (rw q at m))
          | inr l ↦ elim (dec_lt d 2) [ yes s ↦ omega arith | no s ↦ absurd (P.no_divisor d (omega arith) l (mod-eq-zero_of_dvd d k)) ]
        ]

-- ── the turns ──
pub gathered_none : (p i j : ℕ) → 2 ≤ p → Gathered p i j 1 1
gathered_none p i j h = record {
  small = omega arith;
  divided = λ e l c d. absurd (⊎_elim (λ (z : e % 30 ≡ 1 + i). omega arith) (λ (z : e % 30 ≡ 1 + j). omega arith) c);
  undivided = λ P. below_undivided p 1 (omega arith) h;
}

-- a turn from d, none of whose candidates reaches p
pub gathered_turn : (p n i j d a u r : ℕ) → NegatedInverse 4294967296 p n → i ≤ 28 → j ≤ 28 → d % 30 ≡ 1 → d + 28 < p → u ≡ (d + i) * (d + j) →
    Gathered p i j d a → r < 4294967296 → Reduced p (a * u) r → Gathered p i j (d + 30) r
gathered_turn p n i j d a u r N i< j< o s q G b R = record { small = b; divided = divided; undivided = undivided }
  where
    in_turn : (e : ℕ) → d ≤ e → e < d + 30 → (e % 30 ≡ 1 + i) ⊎ (e % 30 ≡ 1 + j) → e ∣ (d + i) * (d + j)
    in_turn e k l c =
        ⊎_elim
        (λ (z : e % 30 ≡ 1 + i). let f : e ≡ d + i = omega arith in rw f (dvd-mul_right (d + i) (d + j)))
        (λ (z : e % 30 ≡ 1 + j). let f : e ≡ d + j = omega arith in rw f (dvd-mul_left (d + j) (d + i)))
        c

    divided : (e : ℕ) → e < d + 30 → (e % 30 ≡ 1 + i) ⊎ (e % 30 ≡ 1 + j) → e ∣ p → e ∣ r
    divided e l c k = reduced_divided p n (a * u) r e N R k (elim (dec_lt e d) [
      | yes v ↦ dvd-mul_right_of_dvd e (G.divided e v c k) u
      | no v ↦ dvd-mul_left_of_dvd e (rw q (in_turn e (omega arith) l c)) a
    ])

    undivided : Prime p → ¬ (p ∣ r)
    undivided P k =
        prime_product p a u P (G.undivided P)
        (rw q (prime_product p (d + i) (d + j) P (below_undivided p (d + i) (omega arith) (omega arith)) (below_undivided p (d + j) (omega arith) (omega arith))))
        (divided_reduced p (a * u) r p R (dvd_refl p) k)

-- ── a turn of all four ──
near_below : (k : ℕ) → k < 4 → slice_index NEAR k ≤ 28
near_below k h = AllWithin-from_all (λ n. n ≤ 28) NEAR (search rules) k 0 (omega arith) h

-- a pair, from the outermost of its turn
pair : (d n : ℕ) → n ≤ 28 → d * (d + 28) + n * (28 - n) ≡ (d + n) * (d + (28 - n))
pair d n h =
    let whole : n + (28 - n) ≡ 28 = omega arith in
    let times : d * (n + (28 - n)) ≡ d * 28 = ap (λ x. d * x) whole in
    omega arith

pub gathered_first : (p : ℕ) → 2 ≤ p → AllGathered p 1 (1 ∷ 1 ∷ 1 ∷ 1 ∷ [])
gathered_first p h k l =
    let one = AllWithin-from_all (λ (a : ℕ). a ≡ 1) (1 ∷ 1 ∷ 1 ∷ 1 ∷ []) (search rules) k 0 (omega arith) l in
    rw one (gathered_none p (slice_index NEAR k) (28 - slice_index NEAR k) h)

pub gathered_at : (p n d k r : ℕ) (xs : List ℕ) → NegatedInverse 4294967296 p n → 65536 ≤ p → d % 30 ≡ 1 → d ≤ 46321 → k < 4 → GatheredAt p d xs k → r < 4294967296 →
    Reduced p (slice_index xs k * (d * (d + 28) + slice_index NEAR k * (28 - slice_index NEAR k))) r → Gathered p (slice_index NEAR k) (28 - slice_index NEAR k) (d + 30) r
gathered_at p n d k r xs N h o l at G b R =
    let close = near_below k at in
    gathered_turn p n (slice_index NEAR k) (28 - slice_index NEAR k) d (slice_index xs k) _ r N close (omega arith) o (omega arith) (pair d _ close) G b R

-- ── the four products as one ──
joined_divided : (p a b e : ℕ) → e ∣ p → (e ∣ a) ⊎ (e ∣ b) → e ∣ a * b % p
joined_divided p a b e h c = (dvd-mod_iff e h).1 (⊎_elim (λ k. dvd-mul_right_of_dvd e k b) (λ k. dvd-mul_left_of_dvd e k a) c)

joined_undivided : (p a b : ℕ) → Prime p → ¬ (p ∣ a) → ¬ (p ∣ b) → ¬ (p ∣ a * b % p)
joined_undivided p a b P h k d = prime_product p a b P h k ((dvd-mod_iff p (dvd_refl p)).0 d)

module _ (p d a b c e : ℕ) (A : Gathered p 0 28 d a) (B : Gathered p 6 22 d b) (C : Gathered p 10 18 d c) (E : Gathered p 12 16 d e) where
  all_divided : (f : ℕ) → f < d → Coprime30 f → f ∣ p → f ∣ a * b % p * (c * e % p) % p
  unfolding remainders
  all_divided f l K k =
      of_remainders (λ s. f % 30 ≡ s → f ∣ a * b % p * (c * e % p) % p) (
        λ z. first (inl (A.divided f l (inl z) k)),
        (
          λ z. first (inl (A.divided f l (inr z) k)),
          (
            λ z. first (inr (B.divided f l (inl z) k)),
            (
              λ z. first (inr (B.divided f l (inr z) k)),
              (
                λ z. last (inl (C.divided f l (inl z) k)),
                (λ z. last (inl (C.divided f l (inr z) k)), (λ z. last (inr (E.divided f l (inl z) k)), (λ z. last (inr (E.divided f l (inr z) k)), tt))),
              ),
            ),
          ),
        ),
      )
      f K refl
    where
      first : (f ∣ a) ⊎ (f ∣ b) → f ∣ a * b % p * (c * e % p) % p
      first h = joined_divided p (a * b % p) (c * e % p) f k (inl (joined_divided p a b f k h))

      last : (f ∣ c) ⊎ (f ∣ e) → f ∣ a * b % p * (c * e % p) % p
      last h = joined_divided p (a * b % p) (c * e % p) f k (inr (joined_divided p c e f k h))

  all_undivided : Prime p → ¬ (p ∣ a * b % p * (c * e % p) % p)
  all_undivided P =
      joined_undivided p (a * b % p) (c * e % p) P (joined_undivided p a b P (A.undivided P) (B.undivided P)) (joined_undivided p c e P (C.undivided P) (E.undivided P))

  -- what their divisors in common with p tell, where the turns have passed the root of p
  pub gathered_test : (r : Bool) → 2 ≤ p → Coprime30 p → p < d * d → IsTrue r ↔ IsGcd p (a * b % p * (c * e % p) % p) 1 → r ≡ is_prime p
  gathered_test true h K l t =
      test_yes p h (λ f f2 s z.
      let k = dvd_of_mod-eq-zero f z in
      let one : f ≡ 1 = eq-one_of_dvd-one ((t.0 refl).2 f k (all_divided f (root_below p d f l s) (coprime_divisor p f K z) k)) in
      omega arith)
  gathered_test false h K l t =
      false_of (is_prime p) (λ i. let P = is_prime_sound p i in false≢true (t.1 (prime_gcd p _ P (all_undivided P))))
