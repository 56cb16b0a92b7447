use Rattle.std.proofs.Common.{◌≡◌, List, map, Option, Ok, sym, ap, subst, ◌∙◌}
use Rattle.std.specs.Prelude.{option_map}
use Rattle.cw_rights.specs.Policies.{policy_of}
use Rattle.cw_certs.specs.declared.moves.Move.{Move}
use Rattle.cw_model.specs.Boards.{move_of}
use Rattle.cw_product.specs.Product.{game_of}
use Rattle.cw_run.specs.Walks.{Here, Wait, here_of, next_is, next_of, wait_of, waits_after}
use Rattle.cw_eval.specs.Passings.{way_in}
use Rattle.cw_starts.specs.Sources.{source_in}
use Rattle.cw_woven_values.specs.declared.stepping.Stand.{Stand}
use Rattle.cw_woven_values.specs.Stepping.{Steps}
use Rattle.cw_woven_values.proofs.Stepped.{Led, stops, never_stuck, goes_on, together}
use Rattle.cw_woven_values.proofs.stepping.go.Goals as goal

pub returns-in-Err-clause-steps : goal.returns-in-Err-clause-steps
returns-in-Err-clause-steps c = λ w left made plain woven is_run st on free.
    stops c.args.game.now (source_in c.args.run.now.known.source) c.args.table.now w left made plain woven (here_of c.args.stand.here)
    (map wait_of c.args.waits.now.items) on free c.in-Err.halt c.advance.new.m
    (map wait_of c.args.waits.now.items) (c.in-Err.ensures (policy_of c.args.game.now.states.policy) plain is_run st)

pub returns-in-None-clause-steps : goal.returns-in-None-clause-steps
returns-in-None-clause-steps c = λ w left made plain woven is_run st on free.
    let h = c.args.game.now in
    let s = source_in c.args.run.now.known.source in
    let t = c.args.table.now in
    let g = game_of h in
    let here = here_of c.args.stand.here in
    let waits = map wait_of c.args.waits.now.items in
    let way = way_in c.in-Ok.onward.way in
    let a = c.in-Ok.ensures (policy_of h.states.policy) plain is_run st in
    let spot = c.spot-spot.result in
    let led : option_map next_is c.lead_over.result ≡ next_of g t here waits spot (move_of way) =
    c.lead_over.ensures.is ∙ ap (λ (b : Move). next_of g t here waits spot b) c.move_of-by.ensures
    in
    absurd
    (never_stuck h s t w left made plain woven here waits on free way a.0 c.advance.new.m c.in-Ok.onward.next a.1 a.3 spot (sym c.spot-spot.ensures) (sym led ∙ ap (option_map next_is) c.in-None.is))

pub returns-in_ok-follow-in-Some-clause-steps : goal.returns-in_ok-follow-in-Some-clause-steps
returns-in_ok-follow-in-Some-clause-steps c = λ w left made plain woven is_run st on free.
    let h = c.args.game.now in
    let s = source_in c.args.run.now.known.source in
    let t = c.args.table.now in
    let g = game_of h in
    let here = here_of c.args.stand.here in
    let waits = map wait_of c.args.waits.now.items in
    let way = way_in c.in-Ok.onward.way in
    let a = c.in-Ok.ensures (policy_of h.states.policy) plain is_run st in
    let spot = c.spot-spot.result in
    let n = next_is c.in-Some.next in
    let point = c.in-Ok.onward.next in
    let m = c.advance.new.m in
    let led : option_map next_is c.lead_over.result ≡ next_of g t here waits spot (move_of way) =
    c.lead_over.ensures.is ∙ ap (λ (b : Move). next_of g t here waits spot b) c.move_of-by.ensures
    in
    let k = goes_on h s t w left made plain woven here waits on free way a.0 m point a.1 a.3 spot n (sym c.spot-spot.ensures) (sym led ∙ ap (option_map next_is) c.in-Some.is) in
    let there = subst (λ (o : Option Here). Led h s t w left made plain woven here waits on free way a.0 m point a.1 a.3 o (waits_after n waits)) (sym c.landing_of.ensures.is) k in
    let all = subst (λ (ws : List Wait). Led h s t w left made plain woven here waits on free way a.0 m point a.1 a.3 (option_map here_of c.landing_of.result) ws)
    (sym c.in_ok-follow-in-Some.ensures.waiting) there in
    subst (λ (o : Option Stand). Steps h s t w (map wait_of c.follow.new.waits.items) left made woven m (Ok o)) (sym c.together.ensures)
    (together h s t w left made plain woven here waits on free way a.0 m point a.1 a.3 c.landing_of.result (map wait_of c.follow.new.waits.items) all)

pub returns-in_err-follow-in-Some-clause-waits : goal.returns-in_err-follow-in-Some-clause-waits
returns-in_err-follow-in-Some-clause-waits c = c.follow.ensures.all (game_of c.args.game.now) c.in-Some.ensures.range c.requires.waits

pub returns-in_ok-follow-in-Some-clause-waits : goal.returns-in_ok-follow-in-Some-clause-waits
returns-in_ok-follow-in-Some-clause-waits c = c.follow.ensures.all (game_of c.args.game.now) c.in-Some.ensures.range c.requires.waits
