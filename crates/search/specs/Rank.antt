-- The rank of a polynomial as a pivot: the least goes first.
use Rattle.std.specs.Prelude.{true, false, ℕ, suc, ◌+◌, ◌*◌, length}
use Rattle.polynomials.specs.Poly.{Poly}
use Rattle.polynomials.specs.Division.{degree}
use Rattle.rules.specs.Branch.{led_by}

-- The degree in v(k+1), then the terms, where v(k+1) leads; behind all those where it does not. Degrees are below 256 and terms below 512.
unfoldable pub rank : ℕ → Poly → ℕ
rank k f = elim (led_by (suc k) f) [ true ↦ 512 * degree k f + length f | false ↦ 131072 ]
