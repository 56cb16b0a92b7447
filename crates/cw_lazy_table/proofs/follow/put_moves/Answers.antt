use Rattle.std.proofs.Common.{◌≡◌, ◌++◌, [], filter_map, sym, ◌∙◌}
use Rattle.std.specs.List.{cons_option}
use Rattle.cw_product.specs.Product.{game_of}
use Rattle.cw_lazy_table.specs.Closing.{moves_on}
use Rattle.cw_lazy_table.specs.Following.{moved_by}
use Rattle.cw_lazy_table.proofs.Few.{put_both}
use Rattle.cw_lazy_table.proofs.Following.{on_ok}
use Rattle.cw_lazy_table.proofs.follow.put_moves.Goals as goal

pub returns-in-Some : goal.returns-in-Some
returns-in-Some c =
    let g = game_of c.args.game.now in
    let k = c.args.key.now in
    on_ok (c.put_move-in-Some.new.keys.items ≡ c.put_move.new.keys.items ++ cons_option (moved_by g k c.in-Some.second) [])
    (c.put_move-in-Some.new.keys.items ≡ c.args.keys.now.items ++ filter_map (moved_by g k) moves_on) c.put_move-in-Some.result
    (λ e.
    put_both g k c.args.keys.now.items c.put_move.new.keys.items c.put_move-in-Some.new.keys.items c.moves-first.result.0 c.in-Some.second c.moves-first.ensures.first
    (sym c.in-Some.is ∙ c.moves-first.ensures.second) c.requires.answers c.in_ok-put_move.ensures e)
    c.put_move-in-Some.ensures
