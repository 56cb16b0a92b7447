use Rattle.std.proofs.Common.{arith}
use Rattle.std.proofs.lemmas.Bool.{eq-eqb, ne_eqb}
use Rattle.cw_value.specs.Deeds.{begins_at}
use Rattle.cw_slots.specs.Texts.{statement_at}
use Rattle.cw_deeds.proofs.Finding.{found, passed, none_found}
use Rattle.cw_deeds.proofs.forms.statement_by.Goals as goal

pub returns-then-statement-at : goal.returns-then-statement-at
returns-then-statement-at c =
    let x = c.statement-item.result in
    found (begins_at c.args.at) statement_at c.args.said.now c.loop-statement.statement-index x c.loop-statement-test.true c.statement-item.is
    (eq-eqb x.now.from c.args.at c.if-statement-at.true) c.loop-statement.invariant

pub loop-statement-preserved : goal.loop-statement-preserved
loop-statement-preserved c =
    let x = c.statement-item.result in
    passed (begins_at c.args.at) statement_at c.args.said.now c.loop-statement.statement-index x c.loop-statement-test.true c.statement-item.is
    (ne_eqb x.now.from c.args.at c.if-statement-at.false) c.loop-statement.invariant

pub returns : goal.returns
returns c = none_found (begins_at c.args.at) statement_at c.args.said.now c.loop-statement.statement-index (omega arith) c.loop-statement.invariant
