use Rattle.std.proofs.Common.{◌∙◌, arith, sym, length-take-le}
use Rattle.std.proofs.lemmas.List.{length-replicate}
use Rattle.std.proofs.lemmas.Result.{err_from_is_err_and}
use Rattle.polynomials.specs.declared.Term.{Term as Packed}
use Rattle.gathering_apart.proofs.EndedLaws.{formed_few, formed_copied, ended_early}
use Rattle.gathering_apart.proofs.gather_apart.Goals as goal

pub whole_as_slice-gather : goal.whole_as_slice-gather
whole_as_slice-gather g c = omega (arith, c.requires.room)

pub whole_as_slice-gather-2 : goal.whole_as_slice-gather-2
whole_as_slice-gather-2 g c = omega (arith, c.requires.room)

-- At most 256 terms are formed.
pub slice_bounds-copy_from_slice-end : goal.slice_bounds-copy_from_slice-end
slice_bounds-copy_from_slice-end g c = omega (arith, (formed_few _ c.in_ok-n.n c.gather.new.x c.in_ok-n.ensures).1, c.requires.in_bounds)

pub slice_bounds-copy_from_slice-end-2 : goal.slice_bounds-copy_from_slice-end-2
slice_bounds-copy_from_slice-end-2 g c =
    let few = (formed_few _ c.in_ok-n.n c.gather.new.x c.in_ok-n.ensures).1 in sym (length-take-le c.in_ok-n.n c.args.x.now (omega (arith, few, c.requires.in_bounds)))

pub shared_whole_as_front-copy_from_slice : goal.shared_whole_as_front-copy_from_slice
shared_whole_as_front-copy_from_slice g c =
    let few = (formed_few _ c.in_ok-n.n c.gather.new.x c.in_ok-n.ensures).1 in (omega (arith, few, c.requires.room), omega (arith, c.requires.room))

pub copy_from_slice-requires : goal.copy_from_slice-requires
copy_from_slice-requires g c =
    let formed = formed_few _ c.in_ok-n.n c.gather.new.x c.in_ok-n.ensures in
    length-take-le c.in_ok-n.n c.args.x.now (omega (arith, formed.1, c.requires.in_bounds)) ∙ sym (length-take-le c.in_ok-n.n c.gather.new.x formed.0.within)

pub returns : goal.returns
returns g c = formed_copied _ c.in_ok-n.n c.gather.new.x c.args.x.now c.copy_from_slice.new.self c.in_ok-n.ensures c.copy_from_slice.ensures.after

pub returns-in_err-n : goal.returns-in_err-n
returns-in_err-n g c =
    let p = err_from_is_err_and c.from_residual.result c.from_residual.ensures.1 in
    let long = length-replicate {A = Packed} g.row.N (record { coefficient = 0; monomial = 0 }) in
    let w = ended_early _ _ _ _ _ _ c.args.x.now c.in_err-n.ensures in
    rw (p.1, p.2, sym long) w
