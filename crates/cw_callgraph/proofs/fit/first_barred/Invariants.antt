use Rattle.std.proofs.Common.{◌≡◌, map, drop}
use Rattle.cw_syntax.specs.Plans.{function_names}
use Rattle.cw_syntax.specs.Trees.{file_of}
use Rattle.cw_callgraph.specs.Barring.{first_barred}
use Rattle.cw_callgraph.proofs.fit.first_barred.Given as goal

abbrev pub invariant-loop-i : goal.invariant-loop-i
invariant-loop-i l = first_barred l.effects (function_names l.checked.source.now (file_of l.checked.program)) l.i (map (λ n. n.items) (drop l.i l.names)) ≡ first_barred l.effects
    (function_names l.checked.source.now (file_of l.checked.program)) 0 (map (λ n. n.items) l.names)
