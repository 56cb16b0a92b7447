-- What is read so far are the lines of the rows so far.
use Rattle.std.proofs.Common.{◌≡◌, ◌++◌, length}
use Rattle.cw_table_text.specs.Rows.{rows_of}
use Rattle.cw_table_text.specs.TablesText.{text_of}
use Rattle.cw_table_text.specs.Working.{table_of, row_lines, IsGood}
use Rattle.cw_table_text.proofs.rows.read_rows.Given as goal

abbrev pub invariant-rows : goal.invariant-rows
invariant-rows l = record {
  is : l.fn.text ≡ text_of (row_lines l.format (rows_of (table_of l.draft))) ++ l.rest;
  good : IsGood l.format (table_of l.draft);
  count_is : l.count ≡ length (rows_of (table_of l.draft));
  states : (table_of l.draft).states ≡ (table_of l.initial.draft).states;
  start : (table_of l.draft).start ≡ (table_of l.initial.draft).start;
}

abbrev pub decreases-rows : goal.decreases-rows
decreases-rows l = length l.rest
