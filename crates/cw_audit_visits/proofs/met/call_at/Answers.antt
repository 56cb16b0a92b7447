use Rattle.std.proofs.Common.{length}
use Rattle.cw_product.specs.Product.{game_of}
use Rattle.cw_audit_visits.specs.Searching.{spot_at}
use Rattle.cw_audit_visits.proofs.Gone.{standing_position}
use Rattle.cw_audit_visits.proofs.met.call_at.Goals as goal
use Rattle.cw_audit_table.proofs.Turns.{call_leads, call_turn}

pub turn-requires : goal.turn-requires
turn-requires c = standing_position c.args.game.now c.args.row_key c.requires.fair c.requires.may_stand

pub returns-in-Call-clause-some : goal.returns-in-Call-clause-some
returns-in-Call-clause-some c =
    let h = c.args.game.now in
    let leads = call_leads (game_of h) (length (game_of h).spots) (length h.graph.parts.items) c.args.row_key.pos.0 (spot_at h c.args.row_key) c.in-Call.callee c.in-Call.split c.in-Call.back
    c.in-Call.ensures c.requires.may_stand.free (λ s e. c.fact_is_closed.ensures.leads c.args.row_key.pos.0 s e) in
    record {
      callee = leads.0;
      back = leads.1;
      call = call_turn (game_of h) (spot_at h c.args.row_key) c.in-Call.callee c.in-Call.split c.in-Call.back c.in-Call.ensures c.requires.may_stand.free;
    }
