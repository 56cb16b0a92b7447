use Rattle.std.proofs.Common.{◌≡◌, ℕ}
use Rattle.cw_product.specs.Product.{game_of}
use Rattle.cw_audit_table.specs.Tables.{group_of, audit_of}
use Rattle.cw_audit_check.proofs.Checked.{RowsFrom}
use Rattle.cw_audit_check.proofs.check.first_bad_row.Given as goal

abbrev pub invariant-loop-number : goal.invariant-loop-number
invariant-loop-number l =
    (i : ℕ) → RowsFrom (game_of l.game) (audit_of l.table) i (group_of l.group) l.group.rows.items 0
    ≡ RowsFrom (game_of l.game) (audit_of l.table) i (group_of l.group) l.group.rows.items l.number
