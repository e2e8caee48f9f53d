-- What follows from the laws of a commutative ring and of a field. `simp ring_laws` decides equations without negatives.
use Rattle.std.specs.Prelude.{◌≡◌, ◌≢◌}
use Rattle.std.proofs.Math.Path.{refl, sym, ap}
use Rattle.std.proofs.Common.{◌∙◌, ap₂, zero-add, suc-add, zero-mul, suc-mul, add-sub_of_le}
use Prim.Native.Nat.{ℕ, zero, suc, ◌+◌, ◌*◌, ◌-◌, ◌/◌, ◌%◌, ◌≤◌}
use Rattle.std.proofs.Math.Nat.{mod-add-div}
use Rattle.residues.specs.Field.{CommRing, Field, cast, pow}

module _ {ℓ} {K : Type ℓ} (R : CommRing K) where
  open R use {add as ◌⊕◌, mul as ◌⊗◌, neg as ⊖◌, nil as 𝟘, one as 𝟙}

  infixl 60 ◌⊕◌
  infixl 70 ◌⊗◌
  infix 80 ⊖◌
  pub add_assoc : (a b c : K) → a ⊕ b ⊕ c ≡ a ⊕ (b ⊕ c)
  add_assoc = R.add_assoc

  pub add_comm : (a b : K) → a ⊕ b ≡ b ⊕ a
  add_comm = R.add_comm

  pub add_nil : (a : K) → a ⊕ 𝟘 ≡ a
  add_nil = R.add_nil

  pub add_neg : (a : K) → a ⊕ (⊖ a) ≡ 𝟘
  add_neg = R.add_neg

  pub mul_assoc : (a b c : K) → a ⊗ b ⊗ c ≡ a ⊗ (b ⊗ c)
  mul_assoc = R.mul_assoc

  pub mul_comm : (a b : K) → a ⊗ b ≡ b ⊗ a
  mul_comm = R.mul_comm

  pub mul_one : (a : K) → a ⊗ 𝟙 ≡ a
  mul_one = R.mul_one

  pub mul_add : (a b c : K) → a ⊗ (b ⊕ c) ≡ a ⊗ b ⊕ a ⊗ c
  mul_add = R.mul_add

  pub nil_add : (a : K) → 𝟘 ⊕ a ≡ a
  nil_add a = add_comm 𝟘 a ∙ add_nil a

  pub neg_add_self : (a : K) → (⊖ a) ⊕ a ≡ 𝟘
  neg_add_self a = add_comm (⊖ a) a ∙ add_neg a

  pub one_mul : (a : K) → 𝟙 ⊗ a ≡ a
  one_mul a = mul_comm 𝟙 a ∙ mul_one a

  pub add_left_comm : (a b c : K) → a ⊕ (b ⊕ c) ≡ b ⊕ (a ⊕ c)
  add_left_comm a b c = sym (add_assoc a b c) ∙ ap (λ z. z ⊕ c) (add_comm a b) ∙ add_assoc b a c

  pub mul_left_comm : (a b c : K) → a ⊗ (b ⊗ c) ≡ b ⊗ (a ⊗ c)
  mul_left_comm a b c = sym (mul_assoc a b c) ∙ ap (λ z. z ⊗ c) (mul_comm a b) ∙ mul_assoc b a c

  pub add_mul : (a b c : K) → (a ⊕ b) ⊗ c ≡ a ⊗ c ⊕ b ⊗ c
  add_mul a b c = mul_comm (a ⊕ b) c ∙ mul_add c a b ∙ ap₂ ◌⊕◌ (mul_comm c a) (mul_comm c b)

  pub neg_cancel : (a b : K) → (⊖ a) ⊕ (a ⊕ b) ≡ b
  neg_cancel a b = sym (add_assoc (⊖ a) a b) ∙ ap (λ z. z ⊕ b) (neg_add_self a) ∙ nil_add b

  pub cancel_neg : (a b : K) → a ⊕ ((⊖ a) ⊕ b) ≡ b
  cancel_neg a b = sym (add_assoc a (⊖ a) b) ∙ ap (λ z. z ⊕ b) (add_neg a) ∙ nil_add b

  pub add_cancel : (a b c : K) → a ⊕ b ≡ a ⊕ c → b ≡ c
  add_cancel a b c e = sym (neg_cancel a b) ∙ ap (λ z. (⊖ a) ⊕ z) e ∙ neg_cancel a c

  -- what adds to zero is the negative
  pub neg_unique : (a b : K) → a ⊕ b ≡ 𝟘 → b ≡ ⊖ a
  neg_unique a b e = add_cancel a b (⊖ a) (e ∙ sym (add_neg a))

  pub mul_nil : (a : K) → a ⊗ 𝟘 ≡ 𝟘
  mul_nil a = add_cancel (a ⊗ 𝟘) (a ⊗ 𝟘) 𝟘 (sym (mul_add a 𝟘 𝟘) ∙ ap (λ z. a ⊗ z) (add_nil 𝟘) ∙ sym (add_nil (a ⊗ 𝟘)))

  pub nil_mul : (a : K) → 𝟘 ⊗ a ≡ 𝟘
  nil_mul a = mul_comm 𝟘 a ∙ mul_nil a

  pub neg_nil : (⊖ 𝟘) ≡ 𝟘
  neg_nil = sym (nil_add (⊖ 𝟘)) ∙ add_neg 𝟘

  pub neg_neg : (a : K) → (⊖ (⊖ a)) ≡ a
  neg_neg a = sym (neg_unique (⊖ a) a (neg_add_self a))

  pub mul_neg : (a b : K) → a ⊗ (⊖ b) ≡ ⊖ (a ⊗ b)
  mul_neg a b = neg_unique (a ⊗ b) (a ⊗ (⊖ b)) (sym (mul_add a b (⊖ b)) ∙ ap (λ z. a ⊗ z) (add_neg b) ∙ mul_nil a)

  pub neg_mul : (a b : K) → (⊖ a) ⊗ b ≡ ⊖ (a ⊗ b)
  neg_mul a b = mul_comm (⊖ a) b ∙ mul_neg b a ∙ ap ⊖◌ (mul_comm b a)

  pub neg_add : (a b : K) → (⊖ (a ⊕ b)) ≡ (⊖ a) ⊕ (⊖ b)
  neg_add a b = sym (neg_unique (a ⊕ b) ((⊖ a) ⊕ (⊖ b)) (simp (add_assoc, add_left_comm b, add_neg, add_nil)))

  -- the laws as rewriting: sums of sorted products, negatives outermost, neighbours cancelled
  pub ruleset sums = (add_assoc, add_comm, add_left_comm, add_nil, nil_add)

  pub ruleset products = (mul_assoc, mul_comm, mul_left_comm, mul_one, one_mul, mul_nil, nil_mul)

  pub ruleset negatives = (neg_add, neg_neg, neg_nil, mul_neg, neg_mul, add_neg, neg_add_self, neg_cancel, cancel_neg)

  pub ruleset ring_laws = (sums, products, negatives, mul_add, add_mul)

  -- ── the image of a number ──
  pub cast_zero : cast R 0 ≡ 𝟘
  unfolding cast
  cast_zero = refl

  pub cast_one : cast R 1 ≡ 𝟙
  unfolding cast
  cast_one = add_nil 𝟙

  pub cast_add : (m n : ℕ) → cast R (m + n) ≡ cast R m ⊕ cast R n
  unfolding cast
  cast_add zero n = ap (cast R) (zero-add n) ∙ sym (nil_add (cast R n))
  cast_add (suc m) n = ap (cast R) (suc-add m n) ∙ ap (λ z. 𝟙 ⊕ z) (cast_add m n) ∙ sym (add_assoc 𝟙 (cast R m) (cast R n))

  one_more : (a b : K) → a ⊗ b ⊕ b ≡ (𝟙 ⊕ a) ⊗ b
  one_more a b = simp ring_laws

  pub cast_mul : (m n : ℕ) → cast R (m * n) ≡ cast R m ⊗ cast R n
  unfolding cast
  cast_mul zero n = ap (cast R) (zero-mul n) ∙ sym (nil_mul (cast R n))
  cast_mul (suc m) n = ap (cast R) (suc-mul m n) ∙ cast_add (m * n) n ∙ ap (λ z. z ⊕ cast R n) (cast_mul m n) ∙ one_more (cast R m) (cast R n)

  -- ── powers ──
  pub pow_add : (x : K) (m n : ℕ) → pow R x (m + n) ≡ pow R x m ⊗ pow R x n
  unfolding pow
  pow_add x zero n = ap (pow R x) (zero-add n) ∙ sym (one_mul (pow R x n))
  pow_add x (suc m) n = ap (pow R x) (suc-add m n) ∙ ap (λ z. x ⊗ z) (pow_add x m n) ∙ sym (mul_assoc x (pow R x m) (pow R x n))

  -- ── where p is zero, as it is in every field that contains the prime field ──
  module _ (p : ℕ) (char : cast R p ≡ 𝟘) where
    cast_mod : (n : ℕ) → cast R (n % p) ≡ cast R n
    cast_mod n =
        sym (add_nil (cast R (n % p))) ∙ ap (λ z. cast R (n % p) ⊕ z) (sym (nil_mul (cast R (n / p))) ∙ ap (λ z. z ⊗ cast R (n / p)) (sym char) ∙ sym (cast_mul p (n / p)))
        ∙ sym (cast_add (n % p) (p * (n / p))) ∙ ap (cast R) (mod-add-div n p)

    pub cast_sum : (a b : ℕ) → cast R ((a + b) % p) ≡ cast R a ⊕ cast R b
    cast_sum a b = cast_mod (a + b) ∙ cast_add a b

    pub cast_product : (a b : ℕ) → cast R (a * b % p) ≡ cast R a ⊗ cast R b
    cast_product a b = cast_mod (a * b) ∙ cast_mul a b

    pub cast_minus_one : 1 ≤ p → cast R (p - 1) ≡ ⊖ 𝟙
    cast_minus_one h = neg_unique 𝟙 (cast R (p - 1)) (ap (λ z. z ⊕ cast R (p - 1)) (sym cast_one) ∙ sym (cast_add 1 (p - 1)) ∙ ap (cast R) (add-sub_of_le h) ∙ char)

module _ {ℓ} {K : Type ℓ} (F : Field K) where
  open F.ring use {add as ◌⊕◌, mul as ◌⊗◌, neg as ⊖◌, nil as 𝟘, one as 𝟙}

  infixl 60 ◌⊕◌
  infixl 70 ◌⊗◌
  infix 80 ⊖◌
  -- no zero divisors
  pub mul_zero : (a b : K) → a ⊗ b ≡ 𝟘 → a ≢ 𝟘 → b ≡ 𝟘
  mul_zero a b e n =
      let R = F.ring in
      sym (one_mul R b) ∙ ap (λ z. z ⊗ b) (sym (F.mul_inv a n)) ∙ mul_assoc R a (F.inv a) b ∙ mul_left_comm R a (F.inv a) b
      ∙ ap (λ z. F.inv a ⊗ z) e ∙ mul_nil R (F.inv a)

  mul_nonzero : (a b : K) → a ≢ 𝟘 → b ≢ 𝟘 → a ⊗ b ≢ 𝟘
  mul_nonzero a b m n e = n (mul_zero a b e m)

  pub unit_nonzero : (a b : K) → a ⊗ b ≡ 𝟙 → a ≢ 𝟘
  unit_nonzero a b e z = F.one≢nil (sym e ∙ ap (λ x. x ⊗ b) z ∙ nil_mul F.ring b)

  pub pow_nonzero : (a : K) (n : ℕ) → a ≢ 𝟘 → pow F.ring a n ≢ 𝟘
  unfolding pow
  pow_nonzero a zero h = F.one≢nil
  pow_nonzero a (suc n) h = mul_nonzero a (pow F.ring a n) h (pow_nonzero a n h)
