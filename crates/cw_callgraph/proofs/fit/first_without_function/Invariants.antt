use Rattle.std.proofs.Common.{◌≡◌, is_none, map, drop}
use Rattle.std.specs.List.{position_from}
use Rattle.cw_syntax.specs.Names.{number_in}
use Rattle.cw_callgraph.proofs.fit.first_without_function.Given as goal

abbrev pub invariant-loop-i : goal.invariant-loop-i
invariant-loop-i l = position_from (λ name. is_none (number_in l.scene.functions name)) l.i (map (λ n. n.items) (drop l.i l.names))
    ≡ position_from (λ name. is_none (number_in l.scene.functions name)) 0 (map (λ n. n.items) l.names)
