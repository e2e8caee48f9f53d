-- Where there is no room the branch stays as it was.
use Rattle.std.proofs.Common.{refl}
use Rattle.branches.proofs.LeavesLaws.{leaves_held}
use Rattle.places.proofs.PlaceLaws.{no_room}
use Rattle.places.proofs.put_at.Goals as goal

pub returns-then-top-end : goal.returns-then-top-end
returns-then-top-end c = record { leaves = λ b bs ss A. no_room c.args.w.now A c.if-top-end.true; beyond_stays = refl }

pub returns : goal.returns
returns c = record { leaves = λ b bs ss A. leaves_held (c.put_in.ensures.held b bs ss A); beyond_stays = c.put_in.ensures.beyond_stays }
