use Rattle.cw_product.specs.Product.{game_of}
use Rattle.cw_run.specs.Walks.{called_of}
use Rattle.cw_run.proofs.Waits.{call_within}
use Rattle.cw_run.proofs.walk.fact_call_is_within.Goals as goal

pub returns : goal.returns
returns c =
    let k =
    call_within (game_of c.args.game.now) _ c.args.pos.0 c.args.spot (called_of c.args.call) c.requires.spot c.requires.call c.fact_is_closed.ensures.leads in
    record { function = k.0; back = k.1 }
