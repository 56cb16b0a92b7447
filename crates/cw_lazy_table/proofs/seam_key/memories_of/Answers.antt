use Rattle.cw_lazy_table.specs.SeamKeys.{memory_of}
use Rattle.cw_lazy_table.proofs.Putting.{put_next, put_all}
use Rattle.cw_lazy_table.proofs.seam_key.memories_of.Goals as goal

pub loop-key-preserved : goal.loop-key-preserved
loop-key-preserved c =
    put_next memory_of c.args.keys.now c.loop-key.key-index _ c.loop-key.memories.items c.put_memory.new.memories.items c.loop-key-test.true c.loop-key.invariant c.in_ok-put_memory.ensures

pub returns : goal.returns
returns c = put_all memory_of c.args.keys.now c.loop-key.key-index c.loop-key.memories.items c.loop-key-test.false c.loop-key.invariant
