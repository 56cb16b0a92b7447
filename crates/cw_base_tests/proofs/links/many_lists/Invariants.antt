use Rattle.std.proofs.Common.{◌≡◌, length}
use Rattle.cw_base_tests.proofs.links.many_lists.Given as goal

abbrev pub invariant-loop-list : goal.invariant-loop-list
invariant-loop-list g l = record { lists : length l.chains.lists ≡ l.many; values : length l.chains.values ≡ l.list }
