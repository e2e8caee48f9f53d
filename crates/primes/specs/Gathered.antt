-- What the prime test by products has gathered.
use Rattle.std.specs.Prelude.{◌≡◌, ◌⊎◌, List, ℕ, ◌+◌, ◌-◌, ◌%◌, ◌<◌, slice_index}
use Rattle.std.specs.Int.{◌∣◌}
use Rattle.residues.specs.Prime.{Prime}
use Rattle.primes.specs.declared.TheConstants.{NEAR}

-- What a tells of the candidates below d that stand i and j behind the first number of a turn: of these, a divisor of p divides a. A prime p does not.
pub record Gathered (p i j d a : ℕ) : Type 0 where
  pub small : a < 4294967296
  pub divided : (e : ℕ) → e < d → (e % 30 ≡ 1 + i) ⊎ (e % 30 ≡ 1 + j) → e ∣ p → e ∣ a
  pub undivided : Prime p → ¬ (p ∣ a)

-- The product at k has gathered its pairs of the turns below d.
abbrev pub GatheredAt : ℕ → ℕ → List ℕ → ℕ → Type 0
GatheredAt p d products k = Gathered p (slice_index NEAR k) (28 - slice_index NEAR k) d (slice_index products k)

-- Each of the four products has.
abbrev pub AllGathered : ℕ → ℕ → List ℕ → Type 0
AllGathered p d products = (k : ℕ) → k < 4 → GatheredAt p d products k
