use Rattle.std.proofs.Common.{rules, ◌<◌, sym, subst}
use Rattle.cw_certs.specs.Strategies.{Strategy}
use Rattle.cw_product.specs.Product.{Held, game_of}
use Rattle.cw_least_strategy.specs.Acts.{IsLost}
use Rattle.cw_least_strategy.specs.Strategies.{IsLeastStrategy, rows_of}
use Rattle.cw_least_strategy.proofs.Backs.{least_ascend}
use Rattle.cw_least_strategy.proofs.Made.{made_good, made_there}
use Rattle.cw_least_strategy.proofs.table.least_strategy.Goals as goal

pub strategy_within-requires-clause-lost : goal.strategy_within-requires-clause-lost
strategy_within-requires-clause-lost c = subst (λ (x : Held). IsLost (game_of x)) (sym c.requires.solved) c.requires.lost

pub returns-in-Ok-Some-clause-good : goal.returns-in-Ok-Some-clause-good
returns-in-Ok-Some-clause-good c =
    let least : IsLeastStrategy (game_of c.args.solved.now.game) c.in-Ok-Some.strategy = search rules in
    made_good c.args.game.now c.requires.made c.in-Ok-Some.strategy
    (subst (λ (x : Held). IsLeastStrategy (game_of x) c.in-Ok-Some.strategy) c.requires.solved least)

pub returns-in-Ok-Some-clause-ascend : goal.returns-in-Ok-Some-clause-ascend
returns-in-Ok-Some-clause-ascend c =
    let least : IsLeastStrategy (game_of c.args.solved.now.game) c.in-Ok-Some.strategy = search rules in
    least_ascend (game_of c.args.solved.now.game) c.in-Ok-Some.strategy least

pub returns-in-Ok-None-clause-there : goal.returns-in-Ok-None-clause-there
returns-in-Ok-None-clause-there c =
    let s = made_there c.args.game.now c.requires.made c.requires.lost.0 c.requires.lost.1 in
    let many : (s : Strategy) → IsLeastStrategy (game_of c.args.solved.now.game) s → 65536 < rows_of s = search rules in
    λ e. (s.0, s.1, many s.0 (subst (λ (x : Held). IsLeastStrategy (game_of x) s.0) (sym c.requires.solved) s.1))
