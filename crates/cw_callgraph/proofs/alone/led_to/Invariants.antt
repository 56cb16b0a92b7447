use Rattle.std.proofs.Common.{◌≡◌, ◌-◌, length}
use Rattle.cw_callgraph.specs.Finding.{IsFound, IsWalked, spelled_in}
use Rattle.cw_callgraph.proofs.alone.led_to.Given as goal

abbrev pub invariant-walk : goal.invariant-walk
invariant-walk l = record {
  walked : IsWalked (spelled_in l.scene l.functions) l.function l.found.numbers.items l.at;
  sound : IsFound l.found;
  wide : length l.found.flags.items ≡ length l.functions;
}

abbrev pub decreases-walk : goal.decreases-walk
decreases-walk l = length l.functions - l.at
