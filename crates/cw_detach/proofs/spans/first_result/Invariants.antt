use Rattle.std.proofs.Common.{◌≡◌, map, drop, slice_get}
use Rattle.std.specs.List.{filter_map}
use Rattle.cw_scope.specs.Held.{nested_of}
use Rattle.cw_detach.specs.Form.{result_in}
use Rattle.cw_resolve.specs.Held.{lists}
use Rattle.cw_detach.proofs.spans.first_result.Given as goal

abbrev pub invariant-loop-nested : goal.invariant-loop-nested
invariant-loop-nested l = slice_get (filter_map (λ p. result_in l.source (lists l.names) p.statement) (map nested_of (drop l.nested-index l.statements))) 0 ≡ slice_get
    (filter_map (λ p. result_in l.source (lists l.names) p.statement) (map nested_of l.statements)) 0
