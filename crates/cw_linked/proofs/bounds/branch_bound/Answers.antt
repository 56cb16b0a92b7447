use Rattle.std.proofs.Common.{◌∙◌, ◌&&◌, Bool, ap₂, arith, inl, inr}
use Rattle.cw_game.specs.Pairs.{has}
use Rattle.cw_product.specs.Product.{game_of}
use Rattle.cw_linked.specs.Founds.{implied}
use Rattle.cw_linked.specs.Works.{known_of, heights_of}
use Rattle.cw_linked.proofs.Blocking.{goes_left, goes_right, by_branch}
use Rattle.cw_linked.proofs.bounds.branch_bound.Goals as goal

pub height_to-first-requires-clause-leads : goal.height_to-first-requires-clause-leads
height_to-first-requires-clause-leads c = goes_left (game_of c.args.game.now) c.args.pos.0 c.args.state.0 c.args.left c.args.right c.requires.branch

pub height_to-second-requires-clause-leads : goal.height_to-second-requires-clause-leads
height_to-second-requires-clause-leads c = goes_right (game_of c.args.game.now) c.args.pos.0 c.args.state.0 c.args.left c.args.right c.requires.branch

pub returns-clause-tells : goal.returns-clause-tells
returns-clause-tells c n =
    let g = game_of c.args.game.now in
    let at = c.args.at.now in
    c.either.ensures.tells n ∙ ap₂ (λ (a b : Bool). a && b) (c.height_to-first.ensures.tells n) (c.height_to-second.ensures.tells n)
    ∙ by_branch g c.args.pos.0 c.args.state.0 (implied (heights_of g (known_of c.args.work.now)) at.number n) (has at.context.promise) c.args.left c.args.right c.requires.branch

pub returns-clause-high : goal.returns-clause-high
returns-clause-high c most up =
    let first = c.height_to-first.ensures.most most up in
    let second = c.height_to-second.ensures.most most up in
    elim c.either.ensures.high [ inl le ↦ omega (arith, le, first) | inr le ↦ omega (arith, le, second) ]
