use Rattle.std.proofs.Math.Facts.{Fits-lt-pow}
use Rattle.cw_solve.proofs.table.fact_fit.Goals as goal

pub returns : goal.returns
returns c = λ k. Fits-lt-pow (c.type_inv.heights k)
