use Rattle.std.proofs.Common.{◌∙◌, ap}
use Rattle.std.specs.Prelude.{slice_get}
use Rattle.cw_certs.specs.Strategies.{strategy_of}
use Rattle.cw_product.specs.Product.{game_of}
use Rattle.cw_echeck.specs.Checks.{stands_by}
use Rattle.cw_echeck.proofs.Checks.{goes_is}
use Rattle.cw_echeck.proofs.check.environment_moves.Goals as goal

pub returns-in-Environment : goal.returns-in-Environment
returns-in-Environment c =
    let g = game_of c.args.game.now in
    let r = c.args.row.now in
    c.stands.ensures ∙ ap (stands_by (strategy_of c.args.cert.now) c.args.next r.aim) c.next-after.ensures.is
    ∙ goes_is g (strategy_of c.args.cert.now) r.pos.0 r.state.0 c.args.next r.aim c.args.by (slice_get g.spots r.pos.0) c.in-Environment.ensures
