use Rattle.std.proofs.Common.{◌≡◌, map, take}
use Rattle.cw_product.specs.Product.{game_of}
use Rattle.cw_lazy_table.specs.Rowing.{open_row}
use Rattle.cw_lazy_table.proofs.lists.open_rows.Given as goal

abbrev pub invariant-loop-seam_key : goal.invariant-loop-seam_key
invariant-loop-seam_key l = l.rows.items ≡ map (open_row (game_of l.game) l.mems) (take l.seam_key-index l.seam_keys)
