use Rattle.std.proofs.Common.{◌≡◌, ℕ, List, [], map, drop}
use Rattle.cw_starts.specs.Held.{item_at}
use Rattle.cw_starts.proofs.Among.{either_has}
use Rattle.cw_starts.proofs.outer.listed.Given as goal

abbrev pub invariant-loop-item : goal.invariant-loop-item
invariant-loop-item l = (name : List ℕ) → either_has l.source name l.texts (map item_at (drop l.item-index l.items)) ≡ either_has l.source name [] (map item_at l.items)
