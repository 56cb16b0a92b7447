use Rattle.std.proofs.Common.{◌≡◌, ◌&&◌, map, drop}
use Rattle.std.specs.List.{list_any}
use Rattle.cw_value.specs.Starts.{has_list}
use Rattle.cw_starts.specs.Held.{item_at, named_at}
use Rattle.cw_starts.proofs.outer.is_listed.Given as goal

abbrev pub invariant-loop-item : goal.invariant-loop-item
invariant-loop-item l =
    list_any (λ i. named_at l.source l.name i && has_list i.init) (map item_at (drop l.item-index l.items))
    ≡ list_any (λ i. named_at l.source l.name i && has_list i.init) (map item_at l.items)
