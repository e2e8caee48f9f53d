-- The records behind the polynomial are moved down over it, and then the counts and the end are written.
use Rattle.std.proofs.Common.{arith}
use Rattle.places.proofs.PlaceLaws.{take_first, take_inside, held_take, take_beyond}
use Rattle.places.proofs.take_at.Goals as goal

pub offset_bounds-w-from : goal.offset_bounds-w-from
offset_bounds-w-from c = omega (arith, take_first c.args.w.now c.requires)

pub bounds-w-from : goal.bounds-w-from
bounds-w-from c = omega (arith, take_first c.args.w.now c.requires)

pub remove-requires : goal.remove-requires
remove-requires c = omega (arith, take_inside c.args.w.now c.requires)

pub overflow_sub-end : goal.overflow_sub-end
overflow_sub-end c = omega (arith, take_inside c.args.w.now c.requires)

pub returns : goal.returns
returns c = record {
  held = λ b bs ss A. held_take c.args.w.now A c.remove.new.w c.remove.ensures c.resize.new.w c.resize.ensures;
  beyond_stays = take_beyond c.args.w.now c.requires c.remove.new.w c.resize.new.w _ c.remove.ensures c.resize.ensures;
}
