use Rattle.std.proofs.Common.{◌≡◌, map, drop}
use Rattle.std.specs.List.{find}
use Rattle.std.specs.Str.{bytes_eq}
use Rattle.cw_syntax.specs.Names.{text}
use Rattle.cw_syntax.specs.Trees.{definition_of}
use Rattle.cw_scope.proofs.rules.defined.Given as goal

abbrev pub invariant-loop-function : goal.invariant-loop-function
invariant-loop-function l = find (λ f. bytes_eq l.name (text l.source f.name)) (map definition_of (drop l.function-index l.function-items)) ≡ find (λ f. bytes_eq l.name (text l.source f.name))
    (map definition_of l.function-items)
