use Rattle.std.proofs.Common.{◌≡◌, ◌++◌, map, drop}
use Rattle.std.specs.List.{filter_map}
use Rattle.cw_scope.specs.Held.{nested_of}
use Rattle.cw_detach.specs.Form.{span_of}
use Rattle.cw_resolve.specs.Held.{lists}
use Rattle.cw_detach.proofs.spans.spans.Given as goal

abbrev pub invariant-loop-nested : goal.invariant-loop-nested
invariant-loop-nested l = l.spans.items ++ filter_map (λ p. span_of l.source (lists l.names) p.statement) (map nested_of (drop l.nested-index l.statements)) ≡ filter_map
    (λ p. span_of l.source (lists l.names) p.statement) (map nested_of l.statements)
