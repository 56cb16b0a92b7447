use Rattle.std.proofs.Common.{◌≡◌, length, drop}
use Rattle.cw_callgraph.specs.Finding.{IsFound, with_all}
use Rattle.cw_callgraph.proofs.found.find_all.Given as goal

abbrev pub invariant-loop-number : goal.invariant-loop-number
invariant-loop-number l = record {
  rest : with_all l.found.numbers.items (drop l.number-index l.numbers) ≡ with_all l.initial.found.numbers.items l.numbers;
  sound : IsFound l.found;
  wide : length l.found.flags.items ≡ length l.initial.found.flags.items;
}
