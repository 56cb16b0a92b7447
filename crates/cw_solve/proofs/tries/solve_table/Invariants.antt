use Rattle.std.proofs.Common.{◌-◌}
use Rattle.cw_product.specs.Product.{game_of}
use Rattle.cw_solve.specs.Contexts.{cells_of}
use Rattle.cw_solve.specs.Tables.{AreTabled}
use Rattle.cw_solve.proofs.tries.solve_table.Given as goal

abbrev pub invariant-tries : goal.invariant-tries
invariant-tries l = AreTabled (game_of l.game) l.contexts.items

abbrev pub decreases-tries : goal.decreases-tries
decreases-tries l = 4194304 - cells_of (game_of l.game) l.contexts.items
