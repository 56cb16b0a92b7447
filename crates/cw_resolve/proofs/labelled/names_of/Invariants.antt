use Rattle.std.proofs.Common.{◌≡◌, ◌++◌, map, drop}
use Rattle.cw_syntax.specs.Names.{text}
use Rattle.cw_syntax.specs.Trees.{definition_of}
use Rattle.cw_resolve.specs.Held.{lists}
use Rattle.cw_resolve.proofs.labelled.names_of.Given as goal

abbrev pub invariant-loop-function : goal.invariant-loop-function
invariant-loop-function l = lists l.names.items ++ map (λ f. text l.source f.name) (map definition_of (drop l.function-index l.functions)) ≡ map (λ f. text l.source f.name)
    (map definition_of l.functions)
