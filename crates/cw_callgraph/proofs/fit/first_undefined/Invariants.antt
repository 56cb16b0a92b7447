use Rattle.std.proofs.Common.{◌≡◌, is_none, map, drop}
use Rattle.std.specs.List.{position_from}
use Rattle.cw_syntax.specs.Names.{number_in}
use Rattle.cw_syntax.specs.Plans.{function_names}
use Rattle.cw_syntax.specs.Trees.{file_of}
use Rattle.cw_callgraph.proofs.fit.first_undefined.Given as goal

abbrev pub invariant-loop-i : goal.invariant-loop-i
invariant-loop-i l = position_from (λ name. is_none (number_in (function_names l.checked.source.now (file_of l.checked.program)) name)) l.i (map (λ n. n.items) (drop l.i l.names)) ≡ position_from
    (λ name. is_none (number_in (function_names l.checked.source.now (file_of l.checked.program)) name)) 0 (map (λ n. n.items) l.names)
