use Rattle.cw_slots.specs.Standing.{seen, AreNamesAt}
use Rattle.cw_slots.proofs.names_at.empty_slots.Given as goal

abbrev pub invariant-loop : goal.invariant-loop
invariant-loop l = AreNamesAt (seen l.source l.own l.shared) l.slots.items
