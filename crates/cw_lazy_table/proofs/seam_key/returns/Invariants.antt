use Rattle.std.proofs.Common.{◌≡◌, filter_map, take}
use Rattle.cw_product.specs.Product.{game_of}
use Rattle.cw_lazy_table.specs.SeamKeys.{return_of}
use Rattle.cw_lazy_table.proofs.seam_key.returns.Given as goal

abbrev pub invariant-loop-pair : goal.invariant-loop-pair
invariant-loop-pair l = l.found.items ≡ filter_map (return_of (game_of l.game)) (take l.pair-index l.pairs)
