use Rattle.std.proofs.Common.{◌≡◌, ◌&&◌, map, drop}
use Rattle.std.specs.List.{list_any}
use Rattle.cw_starts.specs.Held.{item_at, named_at, stated_size}
use Rattle.cw_starts.proofs.outer.is_stated.Given as goal

abbrev pub invariant-loop-item : goal.invariant-loop-item
invariant-loop-item l =
    list_any (λ e. named_at l.source l.name e && stated_size e) (map item_at (drop l.item-index l.earlier))
    ≡ list_any (λ e. named_at l.source l.name e && stated_size e) (map item_at l.earlier)
