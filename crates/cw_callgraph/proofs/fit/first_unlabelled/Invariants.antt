use Rattle.std.proofs.Common.{◌≡◌, not, map, drop}
use Rattle.std.specs.List.{position_from}
use Rattle.cw_syntax.specs.Trees.{file_of}
use Rattle.cw_callgraph.specs.Fitting.{has_label}
use Rattle.cw_callgraph.proofs.fit.first_unlabelled.Given as goal

abbrev pub invariant-loop-i : goal.invariant-loop-i
invariant-loop-i l = position_from (λ name. not (has_label l.checked.source.now (file_of l.checked.program) name)) l.i (map (λ n. n.items) (drop l.i l.names)) ≡ position_from
    (λ name. not (has_label l.checked.source.now (file_of l.checked.program) name)) 0 (map (λ n. n.items) l.names)
