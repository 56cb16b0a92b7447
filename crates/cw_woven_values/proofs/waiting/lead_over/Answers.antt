use Rattle.std.proofs.Common.{List, [], map, sym, ap, ◌∙◌}
use Rattle.cw_game.specs.declared.spots.Spot.{Spot}
use Rattle.cw_product.specs.Product.{game_of}
use Rattle.cw_run.specs.Walks.{Wait, here_of, next_of, wait_of}
use Rattle.cw_woven_values.proofs.waiting.lead_over.Goals as goal

pub returns-in-Step-clause-is : goal.returns-in-Step-clause-is
returns-in-Step-clause-is c =
    let over = λ (ws : List Wait) (s : Spot). next_of (game_of c.args.game.now) c.args.table.now (here_of c.args.here) ws s c.args.by in
    c.lead.ensures.is ∙ (ap (over []) c.in-Step.is ∙ sym (ap (over (map wait_of c.args.waits.now.items)) c.in-Step.is))

pub returns-in-Branch-clause-is : goal.returns-in-Branch-clause-is
returns-in-Branch-clause-is c =
    let over = λ (ws : List Wait) (s : Spot). next_of (game_of c.args.game.now) c.args.table.now (here_of c.args.here) ws s c.args.by in
    c.lead-in-Branch.ensures.is ∙ (ap (over []) c.in-Branch.is ∙ sym (ap (over (map wait_of c.args.waits.now.items)) c.in-Branch.is))
