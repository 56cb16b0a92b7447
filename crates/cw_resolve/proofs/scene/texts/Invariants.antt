use Rattle.std.proofs.Common.{◌≡◌, ◌++◌, map, drop}
use Rattle.cw_resolve.specs.Held.{lists}
use Rattle.cw_resolve.specs.Listed.{text_at}
use Rattle.cw_resolve.proofs.scene.texts.Given as goal

abbrev pub invariant-loop-name : goal.invariant-loop-name
invariant-loop-name l = map text_at l.texts.items ++ lists (drop l.name-index l.names) ≡ lists l.names
