use Rattle.std.proofs.Common.{◌≡◌, ◌++◌, map, take, drop}
use Rattle.cw_links.specs.Cells.{height_in}
use Rattle.cw_links.proofs.cells.into_heights.Given as goal

abbrev pub invariant-loop-number : goal.invariant-loop-number
invariant-loop-number l = l.numbers ≡ map height_in (take l.number-index l.fn.numbers) ++ drop l.number-index l.fn.numbers
