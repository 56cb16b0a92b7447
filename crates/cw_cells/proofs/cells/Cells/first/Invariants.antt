use Rattle.std.proofs.Common.{◌≡◌, ◌≤◌, take}
use Rattle.cw_cells.proofs.cells.Cells.first.Given as goal

abbrev pub invariant-loop-at : goal.invariant-loop-at
invariant-loop-at l = (l.first.items ≡ take l.at l.self) × (l.at ≤ l.at-end)
