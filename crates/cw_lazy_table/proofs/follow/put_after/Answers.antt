use Rattle.std.proofs.Common.{List, ◌++◌, filter_map, append_assoc, ap, ◌∙◌}
use Rattle.std.specs.Prelude.{slice_get}
use Rattle.cw_game.specs.Games.{resumed}
use Rattle.cw_product.specs.Product.{game_of}
use Rattle.cw_lazy_table.specs.declared.key.Key.{Key}
use Rattle.cw_lazy_table.specs.Numbered.{whole, lost_by, set_at}
use Rattle.cw_lazy_table.specs.Closing.{moves_on, gone_on}
use Rattle.cw_lazy_table.specs.Following.{moved_by}
use Rattle.cw_lazy_table.proofs.Following.{answers_after, is_good, position, state, skip_there, skip_short, on_there, callee_below}
use Rattle.cw_lazy_table.proofs.Few.{answers_not_weavers}
use Rattle.cw_lazy_table.proofs.follow.put_after.Goals as goal

pub turn-requires : goal.turn-requires
turn-requires c = position c.args.game.now c.args.solved.now (whole c.args.promises.now c.args.key.now) c.requires.can.can

pub chosen-requires-clause-short : goal.chosen-requires-clause-short
chosen-requires-clause-short c = skip_short c.args.game.now c.args.solved.now (whole c.args.promises.now c.args.key.now) c.requires.can.can c.in-Weaver.ensures

pub chosen-requires-clause-there : goal.chosen-requires-clause-there
chosen-requires-clause-there c = skip_there c.args.game.now c.args.solved.now (whole c.args.promises.now c.args.key.now) c.requires.can.can c.in-Weaver.ensures

pub chosen-requires-clause-state : goal.chosen-requires-clause-state
chosen-requires-clause-state c = state c.args.game.now c.args.solved.now (whole c.args.promises.now c.args.key.now) c.requires.can.can

pub entry-requires : goal.entry-requires
entry-requires c = callee_below c.args.game.now c.args.solved.now (whole c.args.promises.now c.args.key.now) c.requires.can.can c.in-Call.callee c.in-Call.split c.in-Call.back c.in-Call.ensures

pub put_moves-requires-clause-position : goal.put_moves-requires-clause-position
put_moves-requires-clause-position c = position c.args.game.now c.args.solved.now (whole c.args.promises.now c.args.key.now) c.requires.can.can

pub put_moves-requires-clause-state : goal.put_moves-requires-clause-state
put_moves-requires-clause-state c = state c.args.game.now c.args.solved.now (whole c.args.promises.now c.args.key.now) c.requires.can.can

pub put_going_on-requires-clause-position : goal.put_going_on-requires-clause-position
put_going_on-requires-clause-position c = position c.args.game.now c.args.solved.now (whole c.args.promises.now c.args.key.now) c.requires.can.can

pub put_going_on-requires-clause-state : goal.put_going_on-requires-clause-state
put_going_on-requires-clause-state c = state c.args.game.now c.args.solved.now (whole c.args.promises.now c.args.key.now) c.requires.can.can

pub put_going_on-requires-clause-there : goal.put_going_on-requires-clause-there
put_going_on-requires-clause-there c = on_there c.args.game.now c.args.solved.now (whole c.args.promises.now c.args.key.now) c.requires.can.can

pub returns-in_ok-put_going_on-in-Environment-clause-after : goal.returns-in_ok-put_going_on-in-Environment-clause-after
returns-in_ok-put_going_on-in-Environment-clause-after c =
    let g = game_of c.args.game.now in
    let k = c.args.key.now in
    let es = c.args.promises.now in
    let gone = gone_on g (lost_by g es) (set_at g es) k (resumed g k.pos k.state) in
    c.in_ok-put_going_on-in-Environment.ensures ∙ ap (λ (l : List Key). l ++ gone) c.in_ok-put_moves-in-Environment.ensures
    ∙ append_assoc c.args.keys.now.items (filter_map (moved_by g k) moves_on) gone
    ∙ ap (λ (l : List Key). c.args.keys.now.items ++ l) (answers_after g k (lost_by g es) (set_at g es) c.in-Environment.ensures
    (is_good c.args.game.now c.args.solved.now (whole es k) c.requires.can.can))

pub exit-requires : goal.exit-requires
exit-requires c = callee_below c.args.game.now c.args.solved.now (whole c.args.promises.now c.args.key.now) c.requires.can.can c.in-Call.callee c.in-Call.split c.in-Call.back c.in-Call.ensures

pub chosen-requires-clause-within : goal.chosen-requires-clause-within
chosen-requires-clause-within c = c.requires.can.within

pub put_going_on-requires-clause-within : goal.put_going_on-requires-clause-within
put_going_on-requires-clause-within c = c.requires.can.within

pub put_moves-requires-clause-answers : goal.put_moves-requires-clause-answers
put_moves-requires-clause-answers c = answers_not_weavers (game_of c.args.game.now) (slice_get (game_of c.args.game.now).spots c.args.key.now.pos) c.in-Environment.ensures
