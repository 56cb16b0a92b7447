use Rattle.std.proofs.Common.{◌≡◌}
use Rattle.cw_product.specs.Product.{game_of}
use Rattle.cw_audit_table.specs.Tables.{audit_of}
use Rattle.cw_audit_check.proofs.Checked.{GroupsFrom}
use Rattle.cw_audit_check.proofs.check.first_bad_group.Given as goal

abbrev pub invariant-loop-number : goal.invariant-loop-number
invariant-loop-number l =
    GroupsFrom (game_of l.game) (audit_of l.table) l.table.groups.items 0 ≡ GroupsFrom (game_of l.game) (audit_of l.table) l.table.groups.items l.number
