use Rattle.std.proofs.Common.{◌≡◌, ◌++◌, map, drop}
use Rattle.cw_syntax.specs.Names.{text}
use Rattle.cw_resolve.specs.Held.{lists}
use Rattle.cw_resolve.proofs.labelled.texts.Given as goal

abbrev pub invariant-loop-label : goal.invariant-loop-label
invariant-loop-label l = lists l.texts.items ++ map (λ x. text l.source x.name) (drop l.label-index l.labels) ≡ map (λ x. text l.source x.name) l.labels
