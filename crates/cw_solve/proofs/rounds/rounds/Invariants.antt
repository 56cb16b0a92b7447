use Rattle.std.proofs.Common.{◌≡◌, ◌-◌}
use Rattle.cw_product.specs.Product.{game_of}
use Rattle.cw_solve.specs.Tables.{IsTable, IsAtRound}
use Rattle.cw_solve.proofs.rounds.rounds.Given as goal

abbrev pub invariant-rounds : goal.invariant-rounds
invariant-rounds l = record {
  table : IsTable (game_of l.game) l.table;
  blocks : l.table.blocks ≡ l.fn.table.blocks;
  round : IsAtRound (game_of l.game) l.table l.n;
}

abbrev pub decreases-rounds : goal.decreases-rounds
decreases-rounds l = 4194304 - l.table.written
