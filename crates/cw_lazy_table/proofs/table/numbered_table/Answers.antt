use Rattle.std.proofs.Common.{◌∙◌}
use Rattle.cw_product.specs.Product.{game_of}
use Rattle.cw_lazy_table.proofs.Keeps.{mems_of}
use Rattle.cw_lazy_table.proofs.table.numbered_table.Goals as goal

pub table_of-requires-clause-mems : goal.table_of-requires-clause-mems
table_of-requires-clause-mems c =
    mems_of c.args.game.now c.args.promises.now c.args.keys.now c.requires.live c.in_ok-all.all.items c.deref.result.now c.in_ok-found.found.items c.in_ok-mems.mems
    c.deref.ensures.value c.in_ok-all.ensures c.in_ok-found.ensures (c.in_ok-mems.ensures ∙ c.deref-2.ensures.value)
