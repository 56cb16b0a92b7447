use Rattle.std.proofs.Common.{◌≡◌, map, take}
use Rattle.cw_lazy_table.specs.Rowing.{live_row}
use Rattle.cw_lazy_table.proofs.lists.live_rows.Given as goal

abbrev pub invariant-loop-key : goal.invariant-loop-key
invariant-loop-key l = l.rows.items ≡ map (live_row l.mems) (take l.key-index l.keys)
