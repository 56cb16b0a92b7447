use Rattle.std.proofs.Common.{◌≡◌, ◌++◌, take}
use Rattle.std.specs.List.{filter_map}
use Rattle.cw_dfa.specs.Verdicts.{rules_of}
use Rattle.cw_dfa.specs.States.{after_mask}
use Rattle.cw_dfa.proofs.states.put_after_all.Given as goal

abbrev pub invariant-loop-mask : goal.invariant-loop-mask
invariant-loop-mask l = l.keys.items ≡ l.initial.keys.items ++ filter_map (after_mask (rules_of l.rules) l.ahead) (take l.mask-index l.masks)
