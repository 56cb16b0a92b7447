use Rattle.std.proofs.Common.{◌≡◌, ◌++◌, map, drop}
use Rattle.cw_syntax.specs.Names.{text}
use Rattle.cw_resolve.specs.Listed.{text_at}
use Rattle.cw_resolve.proofs.scene.label_texts.Given as goal

abbrev pub invariant-loop-label : goal.invariant-loop-label
invariant-loop-label l = map text_at l.texts.items ++ map (λ x. text l.source x.name) (drop l.label-index l.labels) ≡ map (λ x. text l.source x.name) l.labels
