use Rattle.std.proofs.Common.{◌+◌, ◌<◌, length, Some, is_some, sym, ap, ◌∙◌, arith}
use Rattle.cw_product.specs.Product.{game_of}
use Rattle.cw_game.specs.Games.{weavers_in}
use Rattle.cw_run.specs.Walks.{stays, tries, skips}
use Rattle.cw_run.proofs.Waits.{not_visit}
use Rattle.cw_run.proofs.walk.+rest.Goals as goal

pub rest-requires : goal.rest-requires
rest-requires t c =
    let w : c.args.pos.0 + 2 < length (game_of c.args.game.now).spots =
    c.fact_is_closed.ensures.leads c.args.pos.0 _ (sym c.spot.ensures ∙ ap Some c.in-Visit.is) in
    (omega (arith, w, c.decreases), w)

pub returns-then-is_some-clause-rests : goal.returns-then-is_some-clause-rests
returns-then-is_some-clause-rests t c =
    tries c.args.pos.0 c.in-Visit.seam c.in-Visit.stage c.in-Visit.field-2 (sym c.spot.ensures ∙ ap Some c.in-Visit.is)
    (sym (c.is_some.ensures ∙ ap is_some c.try_at.ensures) ∙ c.if-is_some.true)

pub returns-then-is_some-clause-range : goal.returns-then-is_some-clause-range
returns-then-is_some-clause-range t c =
    let w : c.args.pos.0 + 2 < length (game_of c.args.game.now).spots =
    c.fact_is_closed.ensures.leads c.args.pos.0 _ (sym c.spot.ensures ∙ ap Some c.in-Visit.is) in
    omega (arith, w)

pub returns-else-is_some-clause-rests : goal.returns-else-is_some-clause-rests
returns-else-is_some-clause-rests t c =
    skips c.args.pos.0 _ c.in-Visit.seam c.in-Visit.stage c.in-Visit.field-2 (sym c.spot.ensures ∙ ap Some c.in-Visit.is)
    (sym (c.is_some.ensures ∙ ap is_some c.try_at.ensures) ∙ c.if-is_some.false) c.rest.ensures.rests

pub returns-in_default : goal.returns-in_default
returns-in_default t c = record { rests = stays c.args.pos.0 (ap weavers_in (sym c.spot.ensures) ∙ not_visit c.spot.result c.in_default.not-Visit); range = c.requires.position }
