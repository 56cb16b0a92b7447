use Rattle.std.proofs.Common.{take}
use Rattle.cw_product.specs.Product.{game_of}
use Rattle.cw_lazy_table.specs.SeamKeys.{ComeByKind}
use Rattle.cw_lazy_table.proofs.seam_key.by_kind.Given as goal

abbrev pub invariant-loop-key : goal.invariant-loop-key
invariant-loop-key l = ComeByKind (game_of l.game) (take l.key-index l.keys) l.lists
