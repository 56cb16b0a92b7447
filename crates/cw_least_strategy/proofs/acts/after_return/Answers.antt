use Rattle.std.proofs.Common.{subst, ◌<◌}
use Rattle.cw_product.specs.Product.{Held, game_of}
use Rattle.cw_least_strategy.specs.Acts.{key_of}
use Rattle.cw_least_strategy.proofs.Looking.{back_in}
use Rattle.cw_least_strategy.proofs.acts.after_return.Goals as goal

pub lower_pair-requires-clause-here : goal.lower_pair-requires-clause-here
lower_pair-requires-clause-here c =
    let k = key_of c.args.key.now in
    back_in c.args.solved.now c.requires.routed c.args.number k.aim k.pos k.state c.args.back.0 c.returned-state.result.0 c.args.split c.requires.here c.requires.call
    (subst (λ (x : Held). c.returned-state.result.0 < (game_of x).states.count) c.game.ensures c.returned-state.ensures.within)
