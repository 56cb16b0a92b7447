use Rattle.std.proofs.Common.{◌≡◌, map, take}
use Rattle.cw_slots.specs.Standing.{seen}
use Rattle.cw_machine.proofs.prepared.all_names_at.Given as goal

abbrev pub invariant-loop-names : goal.invariant-loop-names
invariant-loop-names l = l.all.items ≡ map (λ names. seen l.source names l.shared) (take l.names-index l.own)
