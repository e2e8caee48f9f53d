use Rattle.std.proofs.Common.{rules}
use Rattle.points.proofs.PointLaws.{point_decided}
use Rattle.points.proofs.is_point.Goals as goal

pub returns-then-point-n : goal.returns-then-point-n
returns-then-point-n c = point_decided c.args.p c.args.n c.args.point.now _ (search rules)

pub returns-else-point-n : goal.returns-else-point-n
returns-else-point-n c = point_decided c.args.p c.args.n c.args.point.now _ (search rules)
