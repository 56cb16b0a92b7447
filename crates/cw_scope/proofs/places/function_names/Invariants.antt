use Rattle.std.proofs.Common.{◌≡◌, map, drop}
use Rattle.cw_syntax.specs.Trees.{file_of}
use Rattle.cw_scope.specs.Rules.{function_name}
use Rattle.cw_resolve.specs.Soonest.{sooner, soonest}
use Rattle.cw_scope.proofs.places.function_names.Given as goal

abbrev pub invariant-loop-name : goal.invariant-loop-name
invariant-loop-name l = sooner l.place (soonest (map (function_name l.known.source.now (file_of l.known.program.now)) (drop l.name-index l.names))) ≡ soonest
    (map (function_name l.known.source.now (file_of l.known.program.now)) l.names)
