-- The length of f falls where the factors change places.
use Rattle.std.proofs.Common.{length}
use Rattle.products.proofs.+rows.Given as goal

abbrev pub decreases-rows : goal.decreases-rows
decreases-rows l = length l.f.now
