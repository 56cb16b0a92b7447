use Rattle.std.proofs.Common.{◌≡◌, [], ◌≤◌, replicate}
use Rattle.cw_machine.proofs.machine.no_elements.Given as goal

abbrev pub invariant-loop-made : goal.invariant-loop-made
invariant-loop-made l = (l.arrays.items ≡ replicate l.made []) × (l.made ≤ l.count)
