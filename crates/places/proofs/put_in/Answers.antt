-- The records from `to` on are moved up, f is stored, and then the counts and the end are written.
use Rattle.places.proofs.PlaceLaws.{held_put, put_inside, put_beyond}
use Rattle.places.proofs.put_in.Goals as goal

pub insert-requires-clause-at_le_end : goal.insert-requires-clause-at_le_end
insert-requires-clause-at_le_end c = put_inside c.args.w.now c.requires.some_open c.requires.room

pub returns : goal.returns
returns c = record {
  held = λ b bs ss A. held_put c.args.w.now A c.requires.room c.insert.new.w c.insert.ensures c.requires.storable c.resize.new.w c.resize.ensures;
  beyond_stays = put_beyond c.args.w.now c.requires.some_open c.requires.room c.insert.new.w c.resize.new.w _ c.insert.ensures c.resize.ensures;
}
