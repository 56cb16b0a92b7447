use Rattle.std.proofs.Common.{None, Some, ℕ, sym, ap, ap₂, ◌++◌, ◌∙◌, subst, arith, option_map}
use Rattle.std.specs.Prelude.{option_and_then}
use Rattle.cw_product.specs.Product.{game_of}
use Rattle.cw_states.specs.States.{lists_of, caps_at}
use Rattle.cw_rights.specs.Policies.{PlainPolicy, policy_of}
use Rattle.cw_trace.specs.Labels.{name_lists}
use Rattle.cw_trace.specs.Told.{lines_at}
use Rattle.cw_run.specs.Lines.{own_of}
use Rattle.cw_run.specs.Walks.{here_of, wait_of, next_is, next_of, innermost, first_of, landing_of, landing_in, LandsAt}
use Rattle.cw_run.proofs.Entries.{entered_by}
use Rattle.cw_run.proofs.Waits.{first_leads}
use Rattle.cw_run.proofs.run.answer.Goals as goal

pub follow-requires : goal.follow-requires
follow-requires g c =
    let moves = sym c.lead.ensures.is ∙ ap (option_map next_is) c.in-Some.is in
    let few = entered_by (game_of c.args.game.now) c.args.table.now (here_of c.args.here) _ c.spot-spot.result c.args.by (next_is c.in-Some.next) moves in
    omega (arith, c.requires.room, few)

pub returns-in-Some-clause-length : goal.returns-in-Some-clause-length
returns-in-Some-clause-length g c =
    let moves = sym c.lead.ensures.is ∙ ap (option_map next_is) c.in-Some.is in
    let few = entered_by (game_of c.args.game.now) c.args.table.now (here_of c.args.here) _ c.spot-spot.result c.args.by (next_is c.in-Some.next) moves in
    omega (arith, c.follow.ensures.length, few)

pub returns-in-Some-clause-waits : goal.returns-in-Some-clause-waits
returns-in-Some-clause-waits g c = c.follow.ensures.all (game_of c.args.game.now) c.in-Some.ensures.range c.requires.waits

pub returns-in-Some-clause-answered : goal.returns-in-Some-clause-answered
returns-in-Some-clause-answered g c =
    let gm = game_of c.args.game.now in
    let names = name_lists c.args.names.now in
    let h = here_of c.args.here in
    let waits = innermost c.args.waits.now.items in
    let spot = c.spot-spot.result in
    let es = sym c.spot-spot.ensures in
    let first = c.last_call.ensures.is ∙ ap (λ l. first_of (innermost l)) c.deref.ensures.value in
    let moves =
    sym (first_leads gm c.args.table.now h waits spot c.args.by (option_map wait_of c.last_call.result) first) ∙ sym c.lead.ensures.is ∙ ap (option_map next_is) c.in-Some.is
    in
    let text =
    c.put_own_move.ensures.text
    ∙ ap₂ (λ (policy : PlainPolicy) (main : ℕ). c.args.writer.now.text ++ own_of None (lines_at names policy main (Some spot) c.args.by)) (ap policy_of c.policy.ensures) c.main.ensures
    ∙ ap (λ o. c.args.writer.now.text ++ own_of None (lines_at names gm.policy gm.main o c.args.by)) (sym es)
    in (
      next_is c.in-Some.next,
      ap (option_and_then (λ s. next_of gm c.args.table.now h waits s c.args.by)) es ∙ moves,
      record {
        waiting = c.follow.ensures.waiting;
        lands = subst
            (λ l. LandsAt names gm c.args.table.now (caps_at (lists_of c.args.game.now.states)) (own_of None) (next_is c.in-Some.next) (landing_of (next_is c.in-Some.next))
            (landing_in c.land.result) l c.land.new.writer.text) text c.land.ensures.lands;
      },
    )
