use Rattle.std.proofs.Common.{◌≡◌, ◌++◌, take}
use Rattle.std.specs.List.{flat_map}
use Rattle.cw_text.specs.Lines.{line}
use Rattle.cw_io.specs.Written.{Follows}
use Rattle.cw_table_text.specs.Rows.{called}
use Rattle.cw_table_text.proofs.writing.put_rows.Given as goal

abbrev pub invariant-loop-row : goal.invariant-loop-row
invariant-loop-row g l = record {
  text : l.writer.text ≡ l.initial.writer.text ++ flat_map (λ row. line (called l.name (g.R.Spelled.fields row))) (take l.row-index l.rows);
  begun : l.writer.begun ≡ l.initial.writer.begun;
  follows : Follows g.S.Sink.taken g.S.Sink.faults g.S.Sink.refused l.writer l.out;
}
