use Rattle.std.proofs.Common.{◌≡◌, ◌++◌, take}
use Rattle.cw_io.specs.Written.{Follows}
use Rattle.cw_table_text.specs.Rows.{memories}
use Rattle.cw_table_text.specs.TablesText.{text_of}
use Rattle.cw_table_text.specs.Working.{row_lines}
use Rattle.cw_table_text.proofs.writing.put_memories.Given as goal

abbrev pub invariant-loop-number : goal.invariant-loop-number
invariant-loop-number g l = record {
  text : l.writer.text ≡ l.initial.writer.text ++ text_of (row_lines l.format (memories 0 (take l.number l.mems)));
  begun : l.writer.begun ≡ l.initial.writer.begun;
  follows : Follows g.S.Sink.taken g.S.Sink.faults g.S.Sink.refused l.writer l.out;
}
