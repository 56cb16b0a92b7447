use Rattle.cw_slots.specs.Standing.{seen, AreNamesAt}
use Rattle.cw_slots.proofs.names_at.put_names.Given as goal

abbrev pub invariant-loop-byte : goal.invariant-loop-byte
invariant-loop-byte l = AreNamesAt (seen l.source l.own l.shared) l.slots.items
