-- A turn of the wheel of 30, by its eight candidates: one of them divides p, or none does and no other number of the turn is coprime to 30.
use Rattle.std.proofs.Common.{◌≡◌, ◌≢◌, ℕ, ◌+◌, ◌%◌, ◌≤◌, ◌<◌, true, false, slice_index, sym, ◌∙◌, ap, arith}
use Rattle.wheel.specs.Wheel.{Coprime30, Turn}
use Rattle.wheel.specs.laws.Wheel.{coprime_divisor}
use Rattle.wheel.specs.declared.TheConstants.{OFFSETS}

pub turn_divided : (p d e : ℕ) → p % e ≡ 0 → d ≤ e → e ≤ d + 24 → Turn p d true
turn_divided p d e z h l = (e, h, l, z)

pub turn_passed : (p d : ℕ) → d % 30 ≡ 7 → ((k : ℕ) → k < 8 → p % (d + slice_index OFFSETS k) ≢ 0) → Turn p d false
turn_passed p d s none = λ e l u C z.
    let other : (k : ℕ) → k < 8 → e ≢ d + slice_index OFFSETS k = λ k h q. none k h (ap (λ x. p % x) (sym q) ∙ z) in
    omega (arith, other 0, other 1, other 2, other 3, other 4, other 5, other 6, other 7)

-- Before the first turn.
pub none_below_seven : (p : ℕ) → Coprime30 p → (e : ℕ) → 2 ≤ e → e < 7 → p % e ≢ 0
none_below_seven p C e h l z = let D = coprime_divisor p e C z in omega (arith, D.two, D.three, D.five)
