-- The number of a reason: those that document 01 gives in "Operations and their refusals". They stand here alone.
use Rattle.std.specs.Prelude.{ℕ}
use Rattle.tables.specs.declared.Reason.{Reason}
use Rattle.tables.specs.declared.Reason.TheVariants.{Shape, Prime, Variables, Index, Head, Coefficient, Exponent, Order, Terms, Degree, Room, Steps, Output, Point, Broken}

unfoldable pub number : Reason → ℕ
number Shape = 1
number Prime = 2
number Variables = 3
number Index = 4
number Head = 5
number Coefficient = 6
number Exponent = 7
number Order = 8
number Terms = 9
number Degree = 10
number Room = 11
number Steps = 12
number Output = 13
number Point = 14
number Broken = 15
