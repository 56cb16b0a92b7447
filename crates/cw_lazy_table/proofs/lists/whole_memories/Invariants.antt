use Rattle.std.proofs.Common.{◌≡◌, map, take}
use Rattle.cw_lazy_table.specs.Numbered.{whole_memory}
use Rattle.cw_lazy_table.proofs.lists.whole_memories.Given as goal

abbrev pub invariant-loop-mem : goal.invariant-loop-mem
invariant-loop-mem l = l.memories.items ≡ map (whole_memory l.promises) (take l.mem-index l.mems)
