use Rattle.std.proofs.lemmas.List.Elements.{Contains-get_or}
use Rattle.cw_lazy_table.proofs.lists.whole_memories.Goals as goal

pub whole_memory-requires : goal.whole_memory-requires
whole_memory-requires c = record { within = c.requires.within _ (Contains-get_or c.args.mems.now c.loop-mem.mem-index _ c.loop-mem-test.true) }
