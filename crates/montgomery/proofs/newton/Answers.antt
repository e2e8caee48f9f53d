use Rattle.montgomery.specs.laws.Montgomery.{newton_squares}
use Rattle.montgomery.proofs.newton.Goals as goal

pub returns-clause-squares : goal.returns-clause-squares
returns-clause-squares c = newton_squares _ _
