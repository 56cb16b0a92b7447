use Rattle.std.proofs.Common.{sym, ap, ◌∙◌}
use Rattle.cw_game.specs.declared.spots.Spot.TheVariants.{Branch}
use Rattle.cw_product.specs.Product.{game_of}
use Rattle.cw_run.specs.Walks.{here_of, to_if}
use Rattle.cw_run.proofs.Staying.{branch_is}
use Rattle.cw_run.proofs.walk.branched.Goals as goal

pub returns : goal.returns
returns c =
    let g = game_of c.args.game.now in
    let here = here_of c.args.here in
    let within = c.fact_is_closed.ensures.leads here.pos (Branch c.args.left c.args.right) (sym c.requires.spot) in
    record {
      is = λ table. c.to_if.ensures.is ∙ (ap to_if c.behind_branch.ensures.is ∙ branch_is g table here c.args.left c.args.right c.args.by c.requires.spot);
      range = c.to_if.ensures.range g (c.behind_branch.ensures.range g c.requires.here within.0 within.1);
    }
