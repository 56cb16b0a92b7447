use Rattle.std.proofs.Common.{◌∙◌}
use Rattle.cw_text.proofs.Numbered.{one_more}
use Rattle.cw_table_text.proofs.Pieces.{memory_step}
use Rattle.cw_table_text.proofs.writing.put_memories.Goals as goal

pub loop-number-preserved : goal.loop-number-preserved
loop-number-preserved g c = record {
  text = one_more _ _ _ _ _ _ c.loop-number.invariant.text c.put_memory.ensures.text
      (memory_step c.args.format c.args.mems.now c.loop-number.number c.index-mems-number.result c.loop-number-test.true c.index-mems-number.is);
  begun = c.put_memory.ensures.begun ∙ c.loop-number.invariant.begun;
  follows = c.put_memory.ensures.follows;
}
