use Rattle.std.proofs.Common.{ap, inl, inr, length}
use Rattle.std.specs.Prelude.{Err}
use Rattle.cw_audit_table.specs.Tables.{audit_of}
use Rattle.cw_product.specs.Product.{game_of}
use Rattle.cw_audit.specs.Audits.{IsAuditOf}
use Rattle.cw_auditing.proofs.Audited.{true_of}
use Rattle.cw_auditing.proofs.Reaudited.{end_alone}
use Rattle.cw_auditing.proofs.auditing.audited.Goals as goal

pub returns-in-Ok-clause-due : goal.returns-in-Ok-clause-due
returns-in-Ok-clause-due g c = λ whole source.
    let game = game_of c.args.game.now in
    let many = length c.args.game.now.graph.parts.items in
    let table = audit_of c.in-Ok.table in
    let made = c.in-Ok.ensures in
    let is : IsAuditOf game many table = record { stated = made.stated; good = made.good; shown = made.shown; needed = made.needed; few_rows = made.few_rows; few_moves = made.few_moves } in
    inr (inr (
      table,
      is,
      λ p of. true_of p game many table of (end_alone game many c.fact_is_closed.ensures.routes) is.good is.shown,
      c.told.ensures.due,
    ))
