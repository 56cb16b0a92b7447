use Rattle.std.proofs.Common.{◌≡◌, map, Vec}
use Rattle.std.specs.Global.{Global}
use Rattle.cw_certs.specs.declared.rows.OpenRow.{OpenRow}
use Rattle.cw_certs.specs.Ascending.{open_cmp}
use Rattle.cw_fixpoint.specs.Closures.{Exactly}
use Rattle.cw_product.specs.Product.{game_of}
use Rattle.cw_lazy_table.specs.Kinds as kind
use Rattle.cw_lazy_table.specs.Lazy.{IsOpenRow}
use Rattle.cw_lazy_table.specs.Numbered.{whole_memory}
use Rattle.cw_lazy_table.specs.Rowing.{open_row}
use Rattle.cw_lazy_table.proofs.Keeps.{seam_key_range, opens_are}
use Rattle.cw_lazy_table.proofs.table.opens.Goals as goal
use Rattle.cw_lemmas.proofs.Options.{if_ok}

pub open_rows-requires-clause-there : goal.open_rows-requires-clause-there
open_rows-requires-clause-there c =
    seam_key_range c.args.game.now c.args.promises.now c.args.keys.now c.requires.live kind.Open c.args.opens.now
    c.requires.opens

pub returns : goal.returns
returns c =
    let g = game_of c.args.game.now in
    if_ok (λ (v : Vec OpenRow Global). v.items ≡ map (open_row g c.args.mems.now) c.args.opens.now)
    (λ (v : Vec OpenRow Global). Exactly open_cmp (IsOpenRow g (map (whole_memory c.args.promises.now) c.args.mems.now)) v.items) c.open_rows.result c.open_rows.ensures
    (λ v e.
    opens_are c.args.game.now c.args.promises.now c.args.keys.now c.requires.live c.args.mems.now c.requires.mems c.args.opens.now
    c.requires.opens v.items e)
