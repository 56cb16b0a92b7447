use Rattle.cw_product.specs.Product.{game_of}
use Rattle.cw_solve.specs.Rounds.{base}
use Rattle.cw_solve.specs.Tables.{IsTable, IsInRound, IsLater}
use Rattle.cw_solve.proofs.look.look_all.Given as goal

abbrev pub invariant-loop-number : goal.invariant-loop-number
invariant-loop-number l = record {
  table : IsTable (game_of l.game) l.table;
  later : IsLater l.fn.table l.table;
  round : IsInRound (game_of l.game) l.table l.n (base (game_of l.game) l.table.blocks.contexts.items l.number);
}
