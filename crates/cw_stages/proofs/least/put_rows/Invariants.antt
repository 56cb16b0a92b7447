use Rattle.std.proofs.Common.{◌≡◌, ◌++◌, take}
use Rattle.cw_io.specs.Written.{Follows}
use Rattle.cw_strategy_text.specs.StrategyText.{row_lines}
use Rattle.cw_stages.proofs.least.put_rows.Given as goal

abbrev pub invariant-loop-number : goal.invariant-loop-number
invariant-loop-number g l = record {
  text : l.writer.text ≡ l.initial.writer.text ++ row_lines l.format 0 (take l.number l.strategy.rows);
  begun : l.writer.begun ≡ l.initial.writer.begun;
  follows : Follows g.O.Sink.taken g.O.Sink.faults g.O.Sink.refused l.writer l.out;
}
