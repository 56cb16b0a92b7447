use Rattle.std.proofs.Common.{◌∙◌, sym, get_or}
use Rattle.std.proofs.lemmas.Option.{slice_get-get_or}
use Rattle.cw_product.specs.Product.{game_of}
use Rattle.cw_audit_table.specs.Tables.{group_of, audit_of}
use Rattle.cw_audit_check.proofs.Orders.{no_row}
use Rattle.cw_audit_check.proofs.Checked.{row_here, row_next, row_end}
use Rattle.cw_audit_check.proofs.check.first_bad_row.Goals as goal

pub row_fault-requires-clause-pair : goal.row_fault-requires-clause-pair
row_fault-requires-clause-pair c =
    let n = c.loop-number.number in
    c.requires.group.pairs n (get_or c.deref-row-items.result.now n no_row)
    (rw (← c.deref-row-items.ensures.value) (slice_get-get_or c.deref-row-items.result.now n no_row c.loop-number-test.true))

pub returns-in-Some : goal.returns-in-Some
returns-in-Some c = λ i.
    let same = c.deref-row-items.ensures.value in
    sym (c.loop-number.invariant i
    ∙ row_here (game_of c.args.game.now) (audit_of c.args.table.now) i (group_of c.args.group.now) c.args.group.now.rows.items c.loop-number.number no_row c.in-Some.condition
    (rw same at c.loop-number-test.true) (sym (rw same at c.in-Some.ensures)))

pub loop-number-preserved : goal.loop-number-preserved
loop-number-preserved c = λ i.
    let same = c.deref-row-items.ensures.value in
    c.loop-number.invariant i
    ∙ row_next (game_of c.args.game.now) (audit_of c.args.table.now) i (group_of c.args.group.now) c.args.group.now.rows.items c.loop-number.number no_row
    (rw same at c.loop-number-test.true) (sym (rw same at c.in_default.ensures))

pub returns : goal.returns
returns c = λ i.
    sym (c.loop-number.invariant i
    ∙ row_end (game_of c.args.game.now) (audit_of c.args.table.now) i (group_of c.args.group.now) c.args.group.now.rows.items c.loop-number.number
    (rw c.deref-row-items.ensures.value at c.loop-number-test.false))
