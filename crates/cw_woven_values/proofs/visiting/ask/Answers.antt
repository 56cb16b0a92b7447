use Rattle.std.proofs.Common.{Option, sym, ap, subst, ◌∙◌}
use Rattle.std.specs.Prelude.{option_map}
use Rattle.cw_product.specs.Product.{game_of}
use Rattle.cw_run.specs.declared.walk.Next.{Next as NextData}
use Rattle.cw_run.specs.Walks.{here_of, next_is}
use Rattle.cw_woven_values.specs.declared.visiting.Visited.{Visited}
use Rattle.cw_woven_values.specs.Standing.{given}
use Rattle.cw_woven_values.specs.Visiting.{IsVisited, Visits, visited_by}
use Rattle.cw_woven_values.proofs.Asks.{VisitsIf, asks_visit, chosen_range}
use Rattle.cw_woven_values.proofs.visiting.ask.Goals as goal

pub returns-in-None-clause-visits : goal.returns-in-None-clause-visits
returns-in-None-clause-visits c = λ s w waits plain run on asked.
    let h = c.args.game.now in
    let t = c.args.table.now in
    let here = here_of c.args.here in
    let left = c.args.tries.now.left.now in
    let made = c.args.tries.now.made in
    absurd
    (subst (λ (o : Option NextData). VisitsIf h s t w plain here waits left made run on asked c.choose.new.tries.left.now o) c.in-None.is
    (asks_visit h s t w plain here waits left made run on asked c.spot-spot.result (sym c.spot-spot.ensures) c.lead-granted.result c.lead-refused.result c.choose.result c.choose.new.tries.left.now
    c.lead-granted.ensures.is c.lead-refused.ensures.is c.choose.ensures.next c.choose.ensures.left))

pub returns-in-Some-clause-visits : goal.returns-in-Some-clause-visits
returns-in-Some-clause-visits c = λ s w waits plain run on asked.
    let h = c.args.game.now in
    let t = c.args.table.now in
    let here = here_of c.args.here in
    let left = c.args.tries.now.left.now in
    let made = c.args.tries.now.made in
    let rest = c.choose.new.tries.left.now in
    subst (λ v. Visits h s t w plain waits rest c.choose.new.tries.made run v) (sym c.landed.ensures)
    (subst (λ n. Visits h s t w plain waits rest n run (visited_by c.in-Some.next)) (sym c.choose.ensures.made)
    (subst (λ (o : Option NextData). VisitsIf h s t w plain here waits left made run on asked rest o) c.in-Some.is
    (asks_visit h s t w plain here waits left made run on asked c.spot-spot.result (sym c.spot-spot.ensures) c.lead-granted.result c.lead-refused.result c.choose.result rest
    c.lead-granted.ensures.is c.lead-refused.ensures.is c.choose.ensures.next c.choose.ensures.left)))

pub returns-in-Some-clause-range : goal.returns-in-Some-clause-range
returns-in-Some-clause-range c =
    let g = game_of c.args.game.now in
    let og = option_map next_is c.lead-granted.result in
    let or = option_map next_is c.lead-refused.result in
    subst (λ (v : Visited). IsVisited g v) (sym c.landed.ensures)
    (chosen_range g c.lead-granted.result c.lead-refused.result c.in-Some.next (given og or c.args.tries.now.left.now).0 c.lead-granted.ensures.range c.lead-refused.ensures.range
    (sym (ap (option_map next_is) c.in-Some.is) ∙ c.choose.ensures.next))
