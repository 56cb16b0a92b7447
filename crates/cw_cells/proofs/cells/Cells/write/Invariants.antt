use Rattle.std.proofs.Common.{◌≡◌, ◌≤◌, ◌++◌, take, drop}
use Rattle.cw_cells.proofs.cells.Cells.write.Given as goal

abbrev pub invariant-loop-at : goal.invariant-loop-at
invariant-loop-at l = (l.self ≡ take l.at l.first ++ drop l.at l.fn.self) × (l.at ≤ l.at-end)
