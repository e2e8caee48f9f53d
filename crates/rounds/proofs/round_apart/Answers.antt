-- What `round` formed has at most 256 terms: r has room for it.
use Rattle.std.proofs.Common.{◌≡◌, ℕ, ◌≤◌, ◌∙◌, sym, List, length, arith, length-take-le, Result, Ok}
use Rattle.polynomials.specs.Poly.{Poly}
use Rattle.polynomials.specs.Bounds.{standard, bounded_round}
use Rattle.polynomials.specs.Packed.{terms}
use Rattle.polynomials.specs.Working.{Forms}
use Rattle.polynomials.specs.declared.Term.{Term as Packed}
use Rattle.polynomials.specs.declared.Passed.{Passed}
use Rattle.division.specs.declared.Pivot.{Pivot}
use Rattle.division.proofs.PivotLaws.{formed}
use Rattle.rounds.proofs.round_apart.Goals as goal

formed_few : (v : Pivot) (R : Poly) (m : ℕ) (r : Result ℕ Passed) (s : List Packed) → r ≡ Ok m → Forms (bounded_round standard v.p v.k v.d (terms v.divisor.now) R) r s
    → (m ≤ length s) × (m ≤ 256)
formed_few v R m r s q F = let A = formed v R m r s q F in (A.inside, omega (arith, A.holds.few, length-take-le m s A.inside))

pub slice_bounds-copy_from_slice-end-4 : goal.slice_bounds-copy_from_slice-end-4
slice_bounds-copy_from_slice-end-4 c =
    let few = formed_few c.args.pivot.now _ c.in_ok-m.m c.round.result c.round.new.r c.in_ok-m.was c.round.ensures in
    omega (arith, few, c.requires.r_room)

pub slice_bounds-copy_from_slice-end-5 : goal.slice_bounds-copy_from_slice-end-5
slice_bounds-copy_from_slice-end-5 c =
    let few = formed_few c.args.pivot.now _ c.in_ok-m.m c.round.result c.round.new.r c.in_ok-m.was c.round.ensures in
    sym (length-take-le c.in_ok-m.m c.args.r.now (omega (arith, few, c.requires.r_room)))

pub copy_from_slice-requires-2 : goal.copy_from_slice-requires-2
copy_from_slice-requires-2 c =
    let few = formed_few c.args.pivot.now _ c.in_ok-m.m c.round.result c.round.new.r c.in_ok-m.was c.round.ensures in
    length-take-le c.in_ok-m.m c.args.r.now (omega (arith, few, c.requires.r_room)) ∙ sym (length-take-le c.in_ok-m.m c.round.new.r few.0)
