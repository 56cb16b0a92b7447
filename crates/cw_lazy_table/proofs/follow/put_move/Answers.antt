use Rattle.std.proofs.Common.{◌≡◌, ◌++◌, [], ◌∙◌}
use Rattle.std.specs.List.{cons_option}
use Rattle.cw_product.specs.Product.{game_of}
use Rattle.cw_lazy_table.specs.Following.{moved_by}
use Rattle.cw_lazy_table.proofs.Following.{on_ok, put_is}
use Rattle.cw_lazy_table.proofs.follow.put_move.Goals as goal

pub returns : goal.returns
returns c =
    on_ok _ (c.put_pair.new.keys.items ≡ c.args.keys.now.items ++ cons_option (moved_by (game_of c.args.game.now) c.args.key.now c.args.by) []) c.put_pair.result
    (λ e. e ∙ put_is c.args.keys.now.items c.next-pair.result c.args.key.now.promise _ c.next-pair.ensures.is) c.put_pair.ensures
