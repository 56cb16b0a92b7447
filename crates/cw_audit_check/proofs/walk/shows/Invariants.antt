use Rattle.std.proofs.Common.{take}
use Rattle.cw_product.specs.Product.{game_of}
use Rattle.cw_audit_check.specs.Walks.{config_of, IsWalk}
use Rattle.cw_audit_check.proofs.Walked.{Walked}
use Rattle.cw_audit_check.proofs.walk.shows.Given as goal

abbrev pub invariant-loop-by : goal.invariant-loop-by
invariant-loop-by l = record {
  walk : IsWalk (game_of l.game) l.walk;
  walked : Walked (game_of l.game) (take l.by-index l.table.moves.items) (config_of l.walk);
}
