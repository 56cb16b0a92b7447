use Rattle.cw_product.specs.Product.{game_of}
use Rattle.cw_solve.specs.Rounds.{slot}
use Rattle.cw_solve.specs.Tables.{IsTable, IsTabled, IsInRound, IsLater}
use Rattle.cw_solve.proofs.look.look_state.Given as goal

abbrev pub invariant-loop-p : goal.invariant-loop-p
invariant-loop-p l = record {
  table : IsTable (game_of l.game) l.table;
  later : IsLater l.fn.table l.table;
  tabled : IsTabled l.table.blocks l.at;
  round : IsInRound (game_of l.game) l.table l.n (slot (game_of l.game) l.table.blocks.contexts.items l.at.number l.at.context.function l.p l.state.0);
}
