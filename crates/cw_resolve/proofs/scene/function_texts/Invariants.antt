use Rattle.std.proofs.Common.{◌≡◌, ◌++◌, map, drop}
use Rattle.cw_syntax.specs.Names.{text}
use Rattle.cw_syntax.specs.Trees.{definition_of}
use Rattle.cw_resolve.specs.Listed.{text_at}
use Rattle.cw_resolve.proofs.scene.function_texts.Given as goal

abbrev pub invariant-loop-function : goal.invariant-loop-function
invariant-loop-function l =
    map text_at l.texts.items ++ map (λ f. text l.source f.name) (map definition_of (drop l.function-index l.functions))
    ≡ map (λ f. text l.source f.name) (map definition_of l.functions)
