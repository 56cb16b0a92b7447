use Rattle.std.proofs.Common.{◌≡◌, length}
use Rattle.cw_base_tests.proofs.links.put_at.Given as goal

abbrev pub invariant-puts : goal.invariant-puts
invariant-puts g l = length l.buckets ≡ l.cells
