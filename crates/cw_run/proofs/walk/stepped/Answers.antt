use Rattle.std.proofs.Common.{sym, ap, ◌∙◌}
use Rattle.cw_game.specs.declared.spots.Spot.TheVariants.{Step}
use Rattle.cw_product.specs.Product.{game_of}
use Rattle.cw_run.specs.Walks.{here_of, to_if}
use Rattle.cw_run.proofs.Staying.{step_is}
use Rattle.cw_run.proofs.walk.stepped.Goals as goal

pub returns : goal.returns
returns c =
    let g = game_of c.args.game.now in
    let here = here_of c.args.here in
    record {
      is = λ table. c.to_if.ensures.is ∙ (ap to_if c.behind_step.ensures.is ∙ step_is g table here c.args.next c.args.by c.requires.spot);
      range = c.to_if.ensures.range g (c.behind_step.ensures.range g c.requires.here (c.fact_is_closed.ensures.leads here.pos (Step c.args.next) (sym c.requires.spot)));
    }
