-- Montgomery's reduction modulo an odd p: products modulo p but for powers of 2^32, with a division by 2^32 in place of one by p.
use Rattle.std.specs.Prelude.{◌≡◌, refl, ℕ, ◌+◌, ◌*◌}
use Rattle.std.specs.Int.{◌∣◌}
use Rattle.std.proofs.Math.Nat.{dvd_of_mod-eq-zero}

-- p times n leaves −1 modulo m.
abbrev pub NegatedInverse : ℕ → ℕ → ℕ → Type 0
NegatedInverse m p n = m ∣ p * n + 1

-- Where n is the negated inverse of p modulo m, r is that modulo the square of m, if the square divides 2^32.
abbrev pub Squares : ℕ → ℕ → ℕ → Type 0
Squares p n r = (m : ℕ) → m * m ∣ 4294967296 → NegatedInverse m p n → NegatedInverse (m * m) p r

-- 2^32 times r is x and a multiple of p.
pub record Reduced (p x r : ℕ) : Type 0 where
  pub multiple : ℕ
  pub whole : 4294967296 * r ≡ x + multiple * p

modulo_seven : NegatedInverse 4294967296 7 1227133513
modulo_seven = dvd_of_mod-eq-zero 4294967296 refl

ten_modulo_seven : Reduced 7 10 6
ten_modulo_seven = record { multiple = 3681400538; whole = refl }
