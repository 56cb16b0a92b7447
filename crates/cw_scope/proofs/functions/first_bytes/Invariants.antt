use Rattle.std.proofs.Common.{◌≡◌, ◌≤◌, length, map, drop}
use Rattle.cw_syntax.specs.Trees.{definition_of}
use Rattle.cw_scope.specs.Known.{Begin}
use Rattle.cw_scope.proofs.functions.first_bytes.Given as goal

abbrev pub invariant-loop-at : goal.invariant-loop-at
invariant-loop-at l = (l.at ≤ length l.functions) × (length l.begins ≡ 256) × Begin l.source (map definition_of (drop l.at l.functions)) l.begins

abbrev pub decreases-loop-at : goal.decreases-loop-at
decreases-loop-at l = l.at
