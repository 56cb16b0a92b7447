use Rattle.std.proofs.Common.{◌≡◌, length}
use Rattle.cw_base_tests.proofs.links.expect_moves.Given as goal

abbrev pub invariant-loop-cell : goal.invariant-loop-cell
invariant-loop-cell g l = record { lists : length l.chains.lists ≡ l.many; values : length l.chains.values ≡ l.many }

abbrev pub invariant-loop-cell-2 : goal.invariant-loop-cell-2
invariant-loop-cell-2 g l = record { lists : length l.chains.lists ≡ l.many; values : length l.chains.values ≡ l.many }

abbrev pub invariant-loop-cell-3 : goal.invariant-loop-cell-3
invariant-loop-cell-3 g l = record { lists : length l.chains.lists ≡ l.many; values : length l.chains.values ≡ l.many }
