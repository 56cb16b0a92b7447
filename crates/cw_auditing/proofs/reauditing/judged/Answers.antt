use Rattle.std.proofs.Common.{inl, length, subst}
use Rattle.std.specs.Prelude.{IfNone, Option}
use Rattle.cw_audit_check.specs.declared.check.BadGroup.{BadGroup}
use Rattle.cw_audit_table.specs.Conditions.{IsGoodAudit, IsShown}
use Rattle.cw_audit_table.specs.Tables.{audit_of}
use Rattle.cw_audit_table.proofs.Plays.{shown_exact}
use Rattle.cw_product.specs.Product.{game_of}
use Rattle.cw_auditing.proofs.Reaudited.{end_alone}
use Rattle.cw_auditing.proofs.reauditing.judged.Goals as goal

pub returns-in-None-clause-due : goal.returns-in-None-clause-due
returns-in-None-clause-due g c = λ whole source.
    let game = game_of c.args.game.now in
    let many = length c.args.game.now.graph.parts.items in
    let audit = audit_of c.args.audit.now in
    let both = subst (λ (o : Option BadGroup). IfNone o (IsGoodAudit game many audit × IsShown game audit)) c.in-None.is c.in_ok-first_fault.ensures.none in
    inl (both.0, both.1, c.tell.ensures.due, λ p is. shown_exact p game many audit is (end_alone game many c.fact_is_closed.ensures.routes) both.0 both.1)
