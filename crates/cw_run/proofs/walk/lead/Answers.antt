use Rattle.std.proofs.Common.{sym, ap, ◌∙◌}
use Rattle.std.specs.Prelude.{option_map, option_to_list}
use Rattle.cw_game.specs.declared.spots.Spot.{Spot}
use Rattle.cw_product.specs.Product.{game_of}
use Rattle.cw_run.specs.Walks.{here_of, next_of, wait_of}
use Rattle.cw_run.proofs.walk.lead.Goals as goal

pub returns-in-Step-clause-is : goal.returns-in-Step-clause-is
returns-in-Step-clause-is c =
    c.stepped.ensures.is c.args.table.now
    ∙ ap (λ (s : Spot). next_of (game_of c.args.game.now) c.args.table.now (here_of c.args.here) (option_to_list (option_map wait_of c.args.call)) s c.args.by) (sym c.in-Step.is)

pub returns-in-Branch-clause-is : goal.returns-in-Branch-clause-is
returns-in-Branch-clause-is c =
    c.branched.ensures.is c.args.table.now
    ∙ ap (λ (s : Spot). next_of (game_of c.args.game.now) c.args.table.now (here_of c.args.here) (option_to_list (option_map wait_of c.args.call)) s c.args.by) (sym c.in-Branch.is)
