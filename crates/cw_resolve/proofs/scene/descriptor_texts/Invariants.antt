use Rattle.std.proofs.Common.{◌≡◌, ◌++◌, map, drop}
use Rattle.cw_rights.specs.Policies.{descriptor_of}
use Rattle.cw_resolve.specs.Listed.{text_at}
use Rattle.cw_resolve.proofs.scene.descriptor_texts.Given as goal

abbrev pub invariant-loop-descriptor : goal.invariant-loop-descriptor
invariant-loop-descriptor l = map text_at l.texts.items ++ map (λ d. d.name) (map descriptor_of (drop l.descriptor-index l.descriptors)) ≡ map (λ d. d.name) (map descriptor_of l.descriptors)
