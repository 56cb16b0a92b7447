use Rattle.std.proofs.Common.{sym, ◌∙◌}
use Rattle.cw_product.specs.Product.{game_of}
use Rattle.cw_wcheck.proofs.Judged.{tried, skipped}
use Rattle.cw_wcheck.proofs.rows.visits_on.Goals as goal

pub returns-in-Some : goal.returns-in-Some
returns-in-Some c =
    c.lands_live.ensures
    ∙ tried (game_of c.args.game.now) c.args.cert.now c.args.row.now.pos.0 c.args.row.now.state.0 c.args.row.now.mem.0 c.in-Visit.seam c.in-Visit.stage c.in-Visit.field-2 c.args.row.now.spot _ _
    c.in-Visit.is c.requires.row.spot (sym c.try_at.ensures ∙ c.in-Some.is)

pub returns-in-None : goal.returns-in-None
returns-in-None c =
    c.lands_live-in-None.ensures
    ∙ skipped (game_of c.args.game.now) c.args.cert.now c.args.row.now.pos.0 c.args.row.now.state.0 c.args.row.now.mem.0 c.in-Visit.seam c.in-Visit.stage c.in-Visit.field-2 c.args.row.now.spot _
    c.in-Visit.is c.requires.row.spot (sym c.try_at.ensures ∙ c.in-None.is)
