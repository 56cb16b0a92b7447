use Rattle.std.proofs.Common.{◌≡◌, length}
use Rattle.cw_base_tests.proofs.links.put_cells.Given as goal

abbrev pub invariant-loop-cell : goal.invariant-loop-cell
invariant-loop-cell g l = length l.buckets ≡ l.many
