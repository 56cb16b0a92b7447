use Rattle.std.proofs.Common.{◌≡◌, map, take, Some}
use Rattle.cw_machine.proofs.steps.first_cells.Given as goal

abbrev pub invariant-loop-z : goal.invariant-loop-z
invariant-loop-z l = l.cells.items ≡ map Some (take l.z-index l.arguments)
