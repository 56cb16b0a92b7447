use Rattle.std.proofs.Common.{◌≡◌, true, take}
use Rattle.std.specs.List.{list_all}
use Rattle.cw_product.specs.Product.{game_of}
use Rattle.cw_audit_table.specs.Tables.{row_of, group_of}
use Rattle.cw_audit_table.specs.Conditions.{comes_back}
use Rattle.cw_audit_check.proofs.Orders.{ARow}
use Rattle.cw_audit_check.proofs.rows.all_come_back.Given as goal

abbrev pub invariant-loop-last : goal.invariant-loop-last
invariant-loop-last l =
    list_all (λ (r : ARow). comes_back (game_of l.game) l.distance (group_of l.group) (row_of l.row) l.callee l.back.0 (row_of r)) (take l.last-index l.rows) ≡ true
