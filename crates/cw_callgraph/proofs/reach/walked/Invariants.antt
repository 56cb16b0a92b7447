use Rattle.std.proofs.Common.{◌≡◌, ◌-◌, length}
use Rattle.cw_callgraph.specs.Finding.{IsFound, IsWalked, next_in}
use Rattle.cw_callgraph.proofs.reach.walked.Given as goal

abbrev pub invariant-walk : goal.invariant-walk
invariant-walk l = record {
  walked : IsWalked (next_in l.calls.rows.items) l.function l.found.numbers.items l.at;
  sound : IsFound l.found;
  wide : length l.found.flags.items ≡ length l.calls.rows.items;
}

abbrev pub decreases-walk : goal.decreases-walk
decreases-walk l = length l.calls.rows.items - l.at
