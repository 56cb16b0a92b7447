use Rattle.std.proofs.Common.{◌∙◌, sym, refl}
use Rattle.std.proofs.lemmas.Option.{slice_get_read}
use Rattle.cw_product.specs.Product.{game_of}
use Rattle.cw_audit_table.specs.Tables.{audit_of}
use Rattle.cw_audit_table.specs.Conditions.{fault_at}
use Rattle.cw_audit_check.proofs.Checked.{group_here, group_next}
use Rattle.cw_audit_check.proofs.check.first_bad_group.Goals as goal

pub group_fault-requires-clause-group : goal.group_fault-requires-clause-group
group_fault-requires-clause-group c =
    let n = c.loop-number.number in
    let xs = c.deref-group-items.result.now in
    c.requires.range.each n c.group-item.result
    (rw (← c.deref-group-items.ensures.value) (slice_get_read xs _ n c.group-item.result refl c.loop-number-test.true c.group-item.is))

pub group_fault-requires-clause-few : goal.group_fault-requires-clause-few
group_fault-requires-clause-few c =
    let n = c.loop-number.number in
    let xs = c.deref-group-items.result.now in
    c.requires.few.rows_few n c.group-item.result
    (rw (← c.deref-group-items.ensures.value) (slice_get_read xs _ n c.group-item.result refl c.loop-number-test.true c.group-item.is))

pub returns-in-Some : goal.returns-in-Some
returns-in-Some c =
    let n = c.loop-number.number in
    let same = c.deref-group-items.ensures.value in
    sym (c.loop-number.invariant
    ∙ group_here (game_of c.args.game.now) (audit_of c.args.table.now) c.args.table.now.groups.items n c.group-item.result (fault_at n c.in-Some.row c.in-Some.condition)
    (rw same at c.loop-number-test.true) (rw same at c.group-item.is) (sym (c.in-Some.ensures n)))

pub loop-number-preserved : goal.loop-number-preserved
loop-number-preserved c =
    let n = c.loop-number.number in
    let same = c.deref-group-items.ensures.value in
    c.loop-number.invariant
    ∙ group_next (game_of c.args.game.now) (audit_of c.args.table.now) c.args.table.now.groups.items n c.group-item.result
    (rw same at c.loop-number-test.true) (rw same at c.group-item.is) (sym (c.in_default.ensures n))
