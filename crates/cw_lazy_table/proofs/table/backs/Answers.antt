use Rattle.std.proofs.Common.{◌≡◌, map, Vec}
use Rattle.std.specs.Global.{Global}
use Rattle.cw_certs.specs.declared.rows.BackRow.{BackRow}
use Rattle.cw_certs.specs.Ascending.{back_cmp}
use Rattle.cw_fixpoint.specs.Closures.{Exactly}
use Rattle.cw_product.specs.Product.{game_of}
use Rattle.cw_lazy_table.specs.Lazy.{IsBackRow}
use Rattle.cw_lazy_table.specs.Numbered.{whole_memory}
use Rattle.cw_lazy_table.specs.Rowing.{back_row}
use Rattle.cw_lazy_table.proofs.Keeps.{return_states, backs_are}
use Rattle.cw_lazy_table.proofs.table.backs.Goals as goal
use Rattle.cw_lemmas.proofs.Options.{if_ok}

pub back_rows-requires-clause-states : goal.back_rows-requires-clause-states
back_rows-requires-clause-states c = return_states c.args.game.now c.args.promises.now c.args.pairs.now c.requires.paired c.args.returns.now c.requires.returns

pub returns : goal.returns
returns c =
    let g = game_of c.args.game.now in
    if_ok (λ (v : Vec BackRow Global). v.items ≡ map (back_row g c.args.mems.now) c.args.returns.now)
    (λ (v : Vec BackRow Global). Exactly back_cmp (IsBackRow g (map (whole_memory c.args.promises.now) c.args.mems.now)) v.items) c.back_rows.result c.back_rows.ensures
    (λ v e. backs_are c.args.game.now c.args.promises.now c.args.pairs.now c.requires.paired c.args.returns.now c.requires.returns c.args.mems.now c.requires.mems v.items e)
