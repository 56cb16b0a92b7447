use Rattle.std.proofs.Common.{◌≤◌, length, map, drop}
use Rattle.cw_syntax.specs.Trees.{definition_of}
use Rattle.cw_scope.specs.Known.{AreFirst}
use Rattle.cw_scope.proofs.functions.by_name.Given as goal

abbrev pub invariant-loop-at : goal.invariant-loop-at
invariant-loop-at l = (l.at ≤ length l.functions) × AreFirst l.source (map definition_of (drop l.at l.functions)) l.held.entries

abbrev pub decreases-loop-at : goal.decreases-loop-at
decreases-loop-at l = l.at
