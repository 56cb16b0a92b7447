use Rattle.std.proofs.Common.{map, take}
use Rattle.cw_lazy_table.specs.SeamKeys.{memory_of, AreOf}
use Rattle.cw_lazy_table.proofs.seam_key.memories_of.Given as goal

abbrev pub invariant-loop-key : goal.invariant-loop-key
invariant-loop-key l = AreOf (map memory_of (take l.key-index l.keys)) l.memories.items
