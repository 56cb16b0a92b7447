use Rattle.std.proofs.Common.{◌≡◌, ◌≤◌, map, take}
use Rattle.cw_starts.specs.Held.{item_at}
use Rattle.cw_starts.specs.Sources.{array_with, source_in}
use Rattle.cw_starts.proofs.sizes.start_arrays.Given as goal

abbrev pub invariant-loop-n : goal.invariant-loop-n
invariant-loop-n l = (l.arrays.items ≡ map (array_with (source_in l.source) (map item_at l.items)) (take l.n l.names.arrays)) × (l.n ≤ l.n-end)
