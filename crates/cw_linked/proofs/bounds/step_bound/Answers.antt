use Rattle.std.proofs.Common.{◌∙◌, arith}
use Rattle.cw_game.specs.Pairs.{has}
use Rattle.cw_product.specs.Product.{game_of}
use Rattle.cw_linked.specs.Founds.{implied}
use Rattle.cw_linked.specs.Works.{known_of, heights_of}
use Rattle.cw_linked.proofs.Blocking.{steps_on, by_step}
use Rattle.cw_linked.proofs.bounds.step_bound.Goals as goal

pub height_to-requires-clause-leads : goal.height_to-requires-clause-leads
height_to-requires-clause-leads c = steps_on (game_of c.args.game.now) c.args.pos.0 c.args.state.0 c.args.next c.requires.step

pub returns-clause-tells : goal.returns-clause-tells
returns-clause-tells c n =
    let g = game_of c.args.game.now in
    let at = c.args.at.now in
    c.one_more.ensures.tells n ∙ c.height_to.ensures.tells n
    ∙ by_step g c.args.pos.0 c.args.state.0 (implied (heights_of g (known_of c.args.work.now)) at.number n) (has at.context.promise) c.args.next c.requires.step

pub returns-clause-high : goal.returns-clause-high
returns-clause-high c most up = let high = c.height_to.ensures.most most up in omega (arith, c.one_more.ensures.high, high)
