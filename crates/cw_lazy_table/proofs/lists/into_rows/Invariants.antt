use Rattle.std.proofs.Common.{◌≡◌, map, take}
use Rattle.cw_product.specs.Product.{game_of}
use Rattle.cw_lazy_table.specs.Numbered.{set_at}
use Rattle.cw_lazy_table.specs.Rowing.{into_row}
use Rattle.cw_lazy_table.proofs.lists.into_rows.Given as goal

abbrev pub invariant-loop-seam_key : goal.invariant-loop-seam_key
invariant-loop-seam_key l = l.rows.items ≡ map (into_row (set_at (game_of l.game) l.promises) l.mems) (take l.seam_key-index l.seam_keys)
