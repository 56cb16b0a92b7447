use Rattle.std.proofs.Common.{◌≡◌, ◌-◌, ◌<◌, length}
use Rattle.cw_product.specs.Product.{game_of}
use Rattle.cw_audit_table.specs.Runs.{skipped}
use Rattle.cw_audit_table.proofs.skipping.skipped.Given as goal

abbrev pub invariant-loop-at : goal.invariant-loop-at
invariant-loop-at l = record {
  same : skipped (game_of l.game) l.at.0 ≡ skipped (game_of l.game) l.fn.pos.0;
  within : l.at.0 < length (game_of l.game).spots;
}

abbrev pub decreases-loop-at : goal.decreases-loop-at
decreases-loop-at l = length (game_of l.game).spots - l.at.0
