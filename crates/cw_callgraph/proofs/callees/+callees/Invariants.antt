use Rattle.std.proofs.Common.{◌≡◌, length, drop}
use Rattle.cw_resolve.specs.Scenes.{stms_in}
use Rattle.cw_callgraph.specs.Effects.{callees_all}
use Rattle.cw_callgraph.specs.Finding.{IsFound, with_all}
use Rattle.cw_callgraph.proofs.callees.+callees.Given as goal

abbrev pub invariant-find_callees_of_all-loop-statement : goal.invariant-find_callees_of_all-loop-statement
invariant-find_callees_of_all-loop-statement l = record {
  rest : with_all l.found.numbers.items (callees_all (stms_in l.scene (drop l.statement-index l.statements))) ≡ with_all l.initial.found.numbers.items (callees_all (stms_in l.scene l.statements));
  sound : IsFound l.found;
  wide : length l.found.flags.items ≡ length l.initial.found.flags.items;
}
