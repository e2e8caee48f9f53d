-- Commutative rings and fields: one record of operations and laws over any carrier. The image of a number, and powers.
use Rattle.std.specs.Prelude.{◌≡◌, ◌≢◌, ◌⊎◌, ℕ, zero, suc}

pub record CommRing {ℓ} (K : Type ℓ) : Type ℓ where
  pub add : K → K → K
  pub mul : K → K → K
  pub neg : K → K
  pub nil : K
  pub one : K
  pub add_assoc : (a b c : K) → add (add a b) c ≡ add a (add b c)
  pub add_comm : (a b : K) → add a b ≡ add b a
  pub add_nil : (a : K) → add a nil ≡ a
  pub add_neg : (a : K) → add a (neg a) ≡ nil
  pub mul_assoc : (a b c : K) → mul (mul a b) c ≡ mul a (mul b c)
  pub mul_comm : (a b : K) → mul a b ≡ mul b a
  pub mul_one : (a : K) → mul a one ≡ a
  pub mul_add : (a b c : K) → mul a (add b c) ≡ add (mul a b) (mul a c)

-- A field: 1 is not 0, an element is zero or is not, and each that is not has an inverse.
pub record Field {ℓ} (K : Type ℓ) : Type ℓ where
  pub ring : CommRing K
  pub inv : K → K
  pub one≢nil : ring.one ≢ ring.nil
  pub zero_or_not : (a : K) → (a ≡ ring.nil) ⊎ (a ≢ ring.nil)
  pub mul_inv : (a : K) → a ≢ ring.nil → ring.mul a (inv a) ≡ ring.one

module _ {ℓ} {K : Type ℓ} (R : CommRing K) where
  -- The image of a number: that many times 1.
  unfoldable pub cast : ℕ → K
  cast zero = R.nil
  cast (suc n) = R.add R.one (cast n)

  unfoldable pub pow : K → ℕ → K
  pow x zero = R.one
  pow x (suc n) = R.mul x (pow x n)

-- The field contains the prime field of p elements: p times 1 is 0 in it. The map from residues is then forced; it is `cast`.
abbrev pub Contains {ℓ} : {K : Type ℓ} → Field K → ℕ → Type ℓ
Contains F p = cast F.ring p ≡ F.ring.nil
