use Rattle.std.proofs.Common.{◌≡◌}
use Rattle.cw_dfa.specs.Tables.{named}
use Rattle.cw_dfa.specs.Verdicts.{rules_of as rules_in}
use Rattle.cw_states.specs.Tables.{tabled}
use Rattle.cw_states.proofs.masks.named.Given as goal

abbrev pub invariant-loop-label : goal.invariant-loop-label
invariant-loop-label l = record {
  done : l.named.items ≡ tabled (named (rules_in l.rules)) l.label;
}
