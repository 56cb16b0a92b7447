-- Working definitions: where the cells of a context stand.
use Rattle.std.specs.Prelude.{◌≡◌}
use Rattle.cw_game.specs.Games.{Game}
use Rattle.cw_solve.specs.declared.table.Blocks.{Blocks}
use Rattle.cw_solve.specs.Tabled.{Tabled}
use Rattle.cw_solve.specs.Rounds.{base, positions}
use Rattle.cw_linked.specs.declared.block.Block.{Block}

-- where they begin, where its function begins, and how many positions that has
pub record IsBlock (g : Game) (blocks : Blocks) (at : Tabled) (b : Block) : Type 0 where
  pub begins : b.base ≡ base g blocks.contexts.items at.number
  pub enters : b.first ≡ g.entry at.context.function
  pub runs : b.many ≡ positions g at.context.function
