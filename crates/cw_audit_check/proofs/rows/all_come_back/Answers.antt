use Rattle.std.proofs.Common.{◌∙◌, sym}
use Rattle.cw_lemmas.proofs.Lists.{all_done, all_not, all_more}
use Rattle.cw_product.specs.Product.{game_of}
use Rattle.cw_audit_table.specs.Tables.{row_of, group_of}
use Rattle.cw_audit_table.specs.Conditions.{comes_back}
use Rattle.cw_audit_check.proofs.Orders.{no_row}
use Rattle.cw_audit_check.proofs.rows.all_come_back.Goals as goal

pub returns-then-not-comes_back : goal.returns-then-not-comes_back
returns-then-not-comes_back c =
    sym (all_not (comes_back (game_of c.args.game.now) c.args.distance (group_of c.args.group.now) (row_of c.args.row) c.args.callee c.args.back.0) row_of c.args.rows.now
    c.loop-last.last-index no_row c.loop-last-test.true (sym c.comes_back.ensures ∙ c.if-not-comes_back.true))

pub loop-last-preserved : goal.loop-last-preserved
loop-last-preserved c =
    all_more (comes_back (game_of c.args.game.now) c.args.distance (group_of c.args.group.now) (row_of c.args.row) c.args.callee c.args.back.0) row_of c.args.rows.now
    c.loop-last.last-index no_row c.loop-last-test.true c.loop-last.invariant (sym c.comes_back.ensures ∙ c.if-not-comes_back.false)

pub returns : goal.returns
returns c =
    sym (all_done (comes_back (game_of c.args.game.now) c.args.distance (group_of c.args.group.now) (row_of c.args.row) c.args.callee c.args.back.0) row_of c.args.rows.now
    c.loop-last.last-index c.loop-last-test.false c.loop-last.invariant)
