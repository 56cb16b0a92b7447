use Rattle.std.proofs.Common.{◌≡◌, ◌++◌, take, map}
use Rattle.cw_certs.specs.Strategies.{row_of}
use Rattle.cw_io.specs.Written.{Follows}
use Rattle.cw_strategy_text.specs.StrategyText.{row_lines}
use Rattle.cw_strategy_text.proofs.printing.put_rows.Given as goal

abbrev pub invariant-loop-number : goal.invariant-loop-number
invariant-loop-number g l = record {
  text : l.writer.text ≡ l.initial.writer.text ++ row_lines l.format 0 (take l.number (map row_of l.rows));
  begun : l.writer.begun ≡ l.initial.writer.begun;
  follows : Follows g.S.Sink.taken g.S.Sink.faults g.S.Sink.refused l.writer l.out;
}
