use Rattle.std.proofs.Common.{◌≡◌, map, take, length}
use Rattle.std.specs.List.{All}
use Rattle.cw_callgraph.specs.Finding.{AreBelow, lists_of, direct}
use Rattle.cw_callgraph.proofs.callees.all_calls.Given as goal

abbrev pub invariant-loop-function : goal.invariant-loop-function
invariant-loop-function l = record {
  calls : lists_of l.rows.items ≡ map (direct l.scene) (take l.function-index l.program.functions.items);
  below : All (AreBelow (length l.scene.functions)) (lists_of l.rows.items);
}
