-- By who moves at the row's position.
use Rattle.std.proofs.Common.{◌<◌, length}
use Rattle.std.specs.Prelude.{slice_get}
use Rattle.cw_product.specs.Product.{game_of}
use Rattle.cw_audit_table.specs.Tables.{row_of}
use Rattle.cw_audit_check.proofs.Judged.{paired}
use Rattle.cw_audit_check.proofs.rows.row_fault.Goals as goal
use Rattle.cw_audit_check.proofs.rows.row_fault.Goals.{In-Call}
use Rattle.cw_audit_table.proofs.Turns.{call_leads}

leads : (c : In-Call) → (c.in-Call.callee < length c.args.game.now.graph.parts.items) × (c.in-Call.back.0 < length (game_of c.args.game.now).spots)
leads c =
    let g = game_of c.args.game.now in
    call_leads g (length g.spots) (length c.args.game.now.graph.parts.items) c.args.row.0.0 (slice_get g.spots c.args.row.0.0) c.in-Call.callee c.in-Call.split c.in-Call.back
    c.in-Call.ensures (paired g c.args.group.now.function (row_of c.args.row) c.requires.pair).free (λ s e. c.fact_is_closed.ensures.leads c.args.row.0.0 s e)

pub calls_on-requires-clause-callee : goal.calls_on-requires-clause-callee
calls_on-requires-clause-callee c = (leads c).0

pub calls_on-requires-clause-back : goal.calls_on-requires-clause-back
calls_on-requires-clause-back c = (leads c).1
