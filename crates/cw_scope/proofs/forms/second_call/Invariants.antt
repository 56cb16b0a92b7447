use Rattle.std.proofs.Common.{◌≡◌, map, drop, cond, slice_get}
use Rattle.std.specs.List.{filter_map}
use Rattle.cw_syntax.specs.Trees.{file_of}
use Rattle.cw_scope.specs.Rules.{external_call}
use Rattle.cw_scope.specs.Held.{tree_at}
use Rattle.cw_scope.proofs.forms.second_call.Given as goal

abbrev pub invariant-loop-e : goal.invariant-loop-e
invariant-loop-e l = slice_get (filter_map (external_call l.known.source.now (file_of l.known.program.now)) (map tree_at (drop l.e-index l.calls))) (cond l.seen 0 1) ≡ slice_get
    (filter_map (external_call l.known.source.now (file_of l.known.program.now)) (map tree_at l.calls)) 1
