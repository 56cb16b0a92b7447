use Rattle.std.proofs.Common.{arith}
use Rattle.cw_solve.proofs.Keeping.{kept_few}
use Rattle.cw_solve.proofs.solved.Solved.contexts.Goals as goal

pub overflow_cast-result : goal.overflow_cast-result
overflow_cast-result c =
    let few = kept_few c.self.inside.game.now c.self.inside.table c.self.invariant in
    omega (arith, few, c.len.ensures, c.self.inside.table.blocks.contexts.ok.0)
