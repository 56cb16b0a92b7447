use Rattle.std.proofs.Common.{◌∙◌, ap, nat_lt, not, ◌&&◌, ℕ}
use Rattle.cw_core.specs.StateSet.{has as has_member}
use Rattle.cw_product.specs.Product.{game_of}
use Rattle.cw_least_strategy.proofs.Looking.{others_is}
use Rattle.cw_least_strategy.proofs.heights.others.Goals as goal

pub returns : goal.returns
returns c =
    others_is (game_of c.args.game.now) c.args.set.now c.complement_in.result
    (λ i. c.complement_in.ensures.members i ∙ ap (λ (n : ℕ). nat_lt i n && not (has_member c.args.set.now i)) c.states.ensures)
