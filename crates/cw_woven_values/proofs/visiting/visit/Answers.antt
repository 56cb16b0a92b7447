use Rattle.std.proofs.Common.{◌≡◌, ◌+◌, ◌<◌, length, false, true, not, Some, is_some, sym, ap, subst, ◌∙◌, arith}
use Rattle.cw_game.specs.declared.spots.Spot.TheVariants.{Visit}
use Rattle.cw_product.specs.Product.{game_of}
use Rattle.cw_value.specs.Runs.{Going}
use Rattle.cw_run.specs.Walks.{Here, IsHere, here_of, at_pos}
use Rattle.cw_woven_values.specs.Standing.{Weaves}
use Rattle.cw_woven_values.specs.Visiting.{Goes}
use Rattle.cw_woven_values.proofs.Visits.{skips, tries_it, then_asked}
use Rattle.cw_woven_values.proofs.visiting.visit.Goals as goal

pub returns-then-is_none-clause-visits : goal.returns-then-is_none-clause-visits
returns-then-is_none-clause-visits c = λ s w waits plain run on calm.
    let h = c.args.game.now in
    let t = c.args.table.now in
    let here = here_of c.args.here in
    let left = c.args.tries.now.left.now in
    let made = c.args.tries.now.made in
    let es = sym c.spot.ensures ∙ ap Some c.in-Visit.is in
    let none : is_some c.try_at.result ≡ false = c.is_none.ensures ∙ ap not c.if-is_none.true in
    subst (λ (z : Here). (x : Going) × Goes h s t w plain waits left made run z x) (sym c.ahead.ensures)
    (skips h s t w plain here waits left made run on c.in-Visit.seam c.in-Visit.stage c.in-Visit.field-2 es (ap is_some (sym c.try_at.ensures) ∙ none))

pub returns-then-is_none-clause-range : goal.returns-then-is_none-clause-range
returns-then-is_none-clause-range c =
    let g = game_of c.args.game.now in
    let es = sym c.spot.ensures ∙ ap Some c.in-Visit.is in
    subst (λ (z : Here). IsHere g z) (sym c.ahead.ensures) (c.fact_is_closed.ensures.leads c.args.here.pos.0 (Visit c.in-Visit.seam c.in-Visit.stage c.in-Visit.field-2) es, c.requires.here.1)

pub ask-requires : goal.ask-requires
ask-requires c =
    let g = game_of c.args.game.now in
    let es = sym c.spot.ensures ∙ ap Some c.in-Visit.is in
    let lt : c.args.here.pos.0 + 2 < length g.spots = c.fact_is_closed.ensures.leads c.args.here.pos.0 (Visit c.in-Visit.seam c.in-Visit.stage c.in-Visit.field-2) es in
    let near : c.args.here.pos.0 + 1 < length g.spots = omega (arith, lt) in
    record { here = subst (λ (z : Here). IsHere g z) (sym c.ahead-2.ensures) (near, c.requires.here.1) }

pub returns-clause-visits : goal.returns-clause-visits
returns-clause-visits c = λ s w waits plain run on calm.
    let h = c.args.game.now in
    let t = c.args.table.now in
    let here = here_of c.args.here in
    let left = c.args.tries.now.left.now in
    let made = c.args.tries.now.made in
    let es = sym c.spot.ensures ∙ ap Some c.in-Visit.is in
    let there : is_some c.try_at.result ≡ true = c.is_none.ensures ∙ ap not c.if-is_none.false in
    let k = tries_it h s t w plain here waits left made run on c.in-Visit.seam c.in-Visit.stage c.in-Visit.field-2 es (ap is_some (sym c.try_at.ensures) ∙ there) in
    then_asked h s t w plain here waits left made run on (at_pos (here.pos + 1) here) k.0 k.1 c.ask.new.tries.left.now c.ask.new.tries.made c.ask.result
    (c.ask.ensures.visits s w waits plain k.0 (subst (λ (z : Here). Weaves h s t w plain z waits left (made + 1) k.0) (sym c.ahead-2.ensures) k.1.weaves) k.1.asked)
