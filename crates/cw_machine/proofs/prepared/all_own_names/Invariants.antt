use Rattle.std.proofs.Common.{◌≡◌, map, take}
use Rattle.cw_syntax.specs.Trees.{definition_of}
use Rattle.cw_value.specs.Machines.{own_names}
use Rattle.cw_machine.proofs.prepared.all_own_names.Given as goal

abbrev pub invariant-loop-function : goal.invariant-loop-function
invariant-loop-function l = l.own.items ≡ map (own_names l.source) (map definition_of (take l.function-index l.functions))
