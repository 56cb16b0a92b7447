use Rattle.std.proofs.Common.{◌≡◌, ◌++◌, map, drop}
use Rattle.std.specs.List.{filter_map}
use Rattle.cw_syntax.specs.Names.{text}
use Rattle.cw_value.specs.Expressions.{given_for}
use Rattle.cw_slots.specs.Shown.{scope_of}
use Rattle.cw_machine.proofs.prepared.given_cells.Given as goal

abbrev pub invariant-loop-param : goal.invariant-loop-param
invariant-loop-param l =
    l.cells.items ++ map (given_for (scope_of l.scope)) (map (text (scope_of l.scope).source) (filter_map (λ p. p.name) (drop l.param-index l.params)))
    ≡ map (given_for (scope_of l.scope)) (map (text (scope_of l.scope).source) (filter_map (λ p. p.name) l.params))
