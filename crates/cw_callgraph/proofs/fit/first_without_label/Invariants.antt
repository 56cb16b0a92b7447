use Rattle.std.proofs.Common.{◌≡◌, not, map, drop}
use Rattle.std.specs.List.{list_any, position_from}
use Rattle.std.specs.Str.{bytes_eq}
use Rattle.cw_callgraph.proofs.fit.first_without_label.Given as goal

abbrev pub invariant-loop-i : goal.invariant-loop-i
invariant-loop-i l = position_from (λ name. not (list_any (bytes_eq name) l.scene.names.labels)) l.i (map (λ n. n.items) (drop l.i l.names))
    ≡ position_from (λ name. not (list_any (bytes_eq name) l.scene.names.labels)) 0 (map (λ n. n.items) l.names)
