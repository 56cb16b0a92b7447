use Rattle.std.proofs.Common.{◌≡◌, ◌++◌, map, drop}
use Rattle.std.specs.List.{flat_map}
use Rattle.cw_scope.specs.Descriptors.{used}
use Rattle.cw_scope.specs.Held.{tree_at, whole_of}
use Rattle.cw_scope.proofs.misuses.put_all_used.Given as goal

abbrev pub invariant-loop-whole : goal.invariant-loop-whole
invariant-loop-whole l = map tree_at l.out.items ++ flat_map (used l.scene)
    (map whole_of (drop l.whole-index l.wholes)) ≡ map tree_at l.initial.out.items ++ flat_map (used l.scene) (map whole_of l.wholes)
