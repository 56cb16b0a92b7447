use Rattle.std.proofs.Common.{◌≡◌, map, take}
use Rattle.cw_product.specs.Product.{game_of}
use Rattle.cw_lazy_table.specs.Numbered.{lost_by}
use Rattle.cw_lazy_table.specs.Rowing.{try_row}
use Rattle.cw_lazy_table.proofs.lists.try_rows.Given as goal

abbrev pub invariant-loop-seam_key : goal.invariant-loop-seam_key
invariant-loop-seam_key l = l.rows.items ≡ map (try_row (game_of l.game) (lost_by (game_of l.game) l.promises) l.mems) (take l.seam_key-index l.seam_keys)
