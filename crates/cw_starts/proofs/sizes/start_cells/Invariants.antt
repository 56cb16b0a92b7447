use Rattle.std.proofs.Common.{◌≡◌, ◌≤◌, map, take}
use Rattle.cw_starts.specs.Held.{begins_with, item_at}
use Rattle.cw_starts.proofs.sizes.start_cells.Given as goal

abbrev pub invariant-loop-n : goal.invariant-loop-n
invariant-loop-n l = (l.cells.items ≡ map (begins_with l.source.bytes.now (map item_at l.items)) (take l.n l.names.plain)) × (l.n ≤ l.n-end)
