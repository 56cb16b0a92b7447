use Rattle.std.proofs.Common.{arith}
use Rattle.cw_linked.proofs.cells.fact_functions_are_few.Goals as goal

pub returns : goal.returns
returns c = omega (arith, c.function.ensures, c.function.type_inv)
