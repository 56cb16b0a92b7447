use Rattle.std.proofs.Common.{arith}
use Rattle.cw_solve.proofs.Few.{cells_are_few}
use Rattle.cw_solve.proofs.laws.cells_are_few.Goals as goal

pub returns-clause-few : goal.returns-clause-few
returns-clause-few c = λ h all made a. cells_are_few h made all a

pub returns-clause-within : goal.returns-clause-within
returns-clause-within c = λ h all made a most. omega (arith, cells_are_few h made all a, most)
