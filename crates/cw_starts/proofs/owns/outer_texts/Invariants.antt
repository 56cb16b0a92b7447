use Rattle.std.proofs.Common.{◌≡◌, ◌++◌, map, drop}
use Rattle.cw_syntax.specs.Names.{text}
use Rattle.cw_starts.specs.Held.{item_at}
use Rattle.cw_starts.proofs.owns.outer_texts.Given as goal

abbrev pub invariant-loop-item : goal.invariant-loop-item
invariant-loop-item l = l.texts ++ map (λ i. text l.source i.name) (map item_at (drop l.item-index l.items)) ≡ map (λ i. text l.source i.name) (map item_at l.items)
