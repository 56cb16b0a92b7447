use Rattle.std.proofs.Common.{◌≡◌, map, Vec}
use Rattle.std.specs.Global.{Global}
use Rattle.cw_certs.specs.declared.rows.IntoRow.{IntoRow}
use Rattle.cw_certs.specs.Ascending.{into_cmp}
use Rattle.cw_fixpoint.specs.Closures.{Exactly}
use Rattle.cw_product.specs.Product.{game_of}
use Rattle.cw_lazy_table.specs.Kinds as kind
use Rattle.cw_lazy_table.specs.Lazy.{IsIntoRow}
use Rattle.cw_lazy_table.specs.Numbered.{set_at, whole_memory}
use Rattle.cw_lazy_table.specs.Rowing.{into_row}
use Rattle.cw_lazy_table.proofs.Keeps.{seam_key_can, calls_are}
use Rattle.cw_lazy_table.proofs.table.calls.Goals as goal
use Rattle.cw_lemmas.proofs.Options.{if_ok}

pub into_rows-requires-clause-can : goal.into_rows-requires-clause-can
into_rows-requires-clause-can c =
    seam_key_can c.args.game.now c.args.promises.now c.args.keys.now c.requires.live kind.Call c.args.calls.now
    c.requires.calls c.args.solved.now c.requires.ready

pub returns : goal.returns
returns c =
    let g = game_of c.args.game.now in
    if_ok (λ (v : Vec IntoRow Global). v.items ≡ map (into_row (set_at g c.args.promises.now) c.args.mems.now) c.args.calls.now)
    (λ (v : Vec IntoRow Global). Exactly into_cmp (IsIntoRow g (map (whole_memory c.args.promises.now) c.args.mems.now)) v.items) c.into_rows.result c.into_rows.ensures
    (λ v e.
    calls_are c.args.game.now c.args.promises.now c.args.keys.now c.requires.live c.args.mems.now c.requires.mems c.args.calls.now
    c.requires.calls v.items e)
