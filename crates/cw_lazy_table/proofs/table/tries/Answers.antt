use Rattle.std.proofs.Common.{◌≡◌, map, Vec}
use Rattle.std.specs.Global.{Global}
use Rattle.cw_certs.specs.declared.rows.TryRow.{TryRow}
use Rattle.cw_certs.specs.Ascending.{try_cmp}
use Rattle.cw_fixpoint.specs.Closures.{Exactly}
use Rattle.cw_product.specs.Product.{game_of}
use Rattle.cw_lazy_table.specs.Kinds as kind
use Rattle.cw_lazy_table.specs.Lazy.{IsTryRow}
use Rattle.cw_lazy_table.specs.Numbered.{lost_by, whole_memory}
use Rattle.cw_lazy_table.specs.Rowing.{try_row}
use Rattle.cw_lazy_table.proofs.Keeps.{seam_key_can, tries_are}
use Rattle.cw_lazy_table.proofs.table.tries.Goals as goal
use Rattle.cw_lemmas.proofs.Options.{if_ok}

pub try_rows-requires-clause-can : goal.try_rows-requires-clause-can
try_rows-requires-clause-can c =
    seam_key_can c.args.game.now c.args.promises.now c.args.keys.now c.requires.live kind.Asked c.args.asked.now
    c.requires.asked c.args.solved.now c.requires.ready

pub returns : goal.returns
returns c =
    let g = game_of c.args.game.now in
    if_ok (λ (v : Vec TryRow Global). v.items ≡ map (try_row g (lost_by g c.args.promises.now) c.args.mems.now) c.args.asked.now)
    (λ (v : Vec TryRow Global). Exactly try_cmp (IsTryRow g (map (whole_memory c.args.promises.now) c.args.mems.now)) v.items)
    c.try_rows.result c.try_rows.ensures
    (λ v e.
    tries_are c.args.game.now c.args.promises.now c.args.keys.now c.requires.live c.args.mems.now c.requires.mems c.args.asked.now
    c.requires.asked v.items e)
