use Rattle.std.proofs.Common.{◌≡◌, Some, rules}
use Rattle.std.specs.Prelude.{slice_get}
use Rattle.cw_product.specs.Product.{game_of}
use Rattle.cw_lazy_table.proofs.Keeps.{told_by}
use Rattle.cw_lazy_table.proofs.lists.promise_near.Goals as goal

pub returns-in-Some : goal.returns-in-Some
returns-in-Some c =
    let at : slice_get c.args.returns.now c.args.near ≡ Some c.in-Some.back = search rules in
    let same : c.in-Some.back.0 ≡ c.args.seam_key.now = search rules in
    told_by (game_of c.args.game.now) c.args.promises.now c.args.returns.now c.args.near c.in-Some.back c.args.seam_key.now c.requires.returns at same
