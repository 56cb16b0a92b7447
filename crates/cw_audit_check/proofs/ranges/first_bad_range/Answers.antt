use Rattle.std.proofs.Common.{◌∙◌, sym, length}
use Rattle.cw_product.specs.Product.{game_of}
use Rattle.cw_audit_table.specs.Conditions.{fault_at}
use Rattle.cw_audit_check.proofs.Orders.{group_row, group_next}
use Rattle.cw_audit_check.proofs.ranges.first_bad_range.Goals as goal

pub returns-in-Some : goal.returns-in-Some
returns-in-Some c =
    let n = c.loop-number.number in
    let x = c.index-groups-number.result in
    sym (c.loop-number.invariant
    ∙ group_row (game_of c.args.game.now) (length c.args.game.now.graph.parts.items) c.args.groups.now c.loop-number.last n x (fault_at n c.in-Some.row 1) c.loop-number-test.true
    c.index-groups-number.is (sym c.is_next_group.ensures ∙ c.if-not-is_next_group.false) (sym (rw c.deref.ensures.value at (c.in-Some.ensures n))))

pub loop-number-preserved : goal.loop-number-preserved
loop-number-preserved c =
    let n = c.loop-number.number in
    let x = c.index-groups-number.result in
    c.loop-number.invariant
    ∙ group_next (game_of c.args.game.now) (length c.args.game.now.graph.parts.items) c.args.groups.now c.loop-number.last n x c.loop-number-test.true
    c.index-groups-number.is (sym c.is_next_group.ensures ∙ c.if-not-is_next_group.false) (sym (rw c.deref.ensures.value at (c.in_default.ensures n)))
