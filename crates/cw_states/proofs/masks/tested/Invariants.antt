use Rattle.std.proofs.Common.{◌≡◌, map, take}
use Rattle.cw_dfa.specs.Tables.{tested}
use Rattle.cw_dfa.specs.Verdicts.{rules_of as rules_in}
use Rattle.cw_states.specs.Growing.{all_caps}
use Rattle.cw_states.proofs.masks.tested.Given as goal

abbrev pub invariant-loop-state : goal.invariant-loop-state
invariant-loop-state l = record {
  done : l.tested.items ≡ map (tested (rules_in l.rules)) (all_caps (take l.state-index l.rights));
}
