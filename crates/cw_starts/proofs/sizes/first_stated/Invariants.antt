use Rattle.std.proofs.Common.{◌≡◌, map, drop}
use Rattle.cw_value.specs.Starts.{first_stated}
use Rattle.cw_starts.specs.Held.{item_at}
use Rattle.cw_starts.specs.Sources.{source_in}
use Rattle.cw_starts.proofs.sizes.first_stated.Given as goal

abbrev pub invariant-loop-item : goal.invariant-loop-item
invariant-loop-item l =
    first_stated (source_in l.source) l.name (map item_at (drop l.item-index l.items)) ≡ first_stated (source_in l.source) l.name (map item_at l.items)
