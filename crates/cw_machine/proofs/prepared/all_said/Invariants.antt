use Rattle.std.proofs.Common.{◌≡◌, map, take}
use Rattle.cw_syntax.specs.Trees.{definition_of}
use Rattle.cw_value.specs.Deeds.{said_all}
use Rattle.cw_machine.specs.Knowing.{said_in}
use Rattle.cw_machine.proofs.prepared.all_said.Given as goal

abbrev pub invariant-loop-function : goal.invariant-loop-function
invariant-loop-function l = map said_in l.all.items ≡ map (λ f. said_all f.body) (map definition_of (take l.function-index l.functions))
