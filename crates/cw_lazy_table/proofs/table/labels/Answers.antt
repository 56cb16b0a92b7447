use Rattle.std.proofs.Common.{◌≡◌, map, Vec}
use Rattle.std.specs.Global.{Global}
use Rattle.cw_certs.specs.declared.rows.AtRow.{AtRow}
use Rattle.cw_certs.specs.Ascending.{at_cmp}
use Rattle.cw_fixpoint.specs.Closures.{Exactly}
use Rattle.cw_product.specs.Product.{game_of}
use Rattle.cw_lazy_table.specs.Kinds as kind
use Rattle.cw_lazy_table.specs.Lazy.{IsLabelRow}
use Rattle.cw_lazy_table.specs.Numbered.{whole_memory}
use Rattle.cw_lazy_table.specs.Rowing.{at_row}
use Rattle.cw_lazy_table.proofs.Keeps.{seam_key_range, labels_are}
use Rattle.cw_lazy_table.proofs.table.labels.Goals as goal
use Rattle.cw_lemmas.proofs.Options.{if_ok}

pub at_rows-requires-clause-there : goal.at_rows-requires-clause-there
at_rows-requires-clause-there c =
    seam_key_range c.args.game.now c.args.promises.now c.args.keys.now c.requires.live kind.Label c.args.labels.now
    c.requires.labels

pub returns : goal.returns
returns c =
    let g = game_of c.args.game.now in
    if_ok (λ (v : Vec AtRow Global). v.items ≡ map (at_row g c.args.mems.now) c.args.labels.now)
    (λ (v : Vec AtRow Global). Exactly at_cmp (IsLabelRow g (map (whole_memory c.args.promises.now) c.args.mems.now)) v.items)
    c.at_rows.result c.at_rows.ensures
    (λ v e.
    labels_are c.args.game.now c.args.promises.now c.args.keys.now c.requires.live c.args.mems.now c.requires.mems c.args.labels.now
    c.requires.labels v.items e)
