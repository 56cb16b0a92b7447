use Rattle.std.proofs.Common.{◌≡◌, map, take}
use Rattle.cw_product.specs.Product.{game_of}
use Rattle.cw_lazy_table.specs.Rowing.{back_row}
use Rattle.cw_lazy_table.proofs.lists.back_rows.Given as goal

abbrev pub invariant-loop-back : goal.invariant-loop-back
invariant-loop-back l = l.rows.items ≡ map (back_row (game_of l.game) l.mems) (take l.back-index l.returns)
