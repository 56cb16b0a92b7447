use Rattle.std.proofs.Common.{◌≡◌, ◌++◌, take}
use Rattle.std.specs.List.{flat_map}
use Rattle.cw_io.specs.Written.{Follows}
use Rattle.cw_value_text.specs.Working.{behind}
use Rattle.cw_value_text.proofs.printing.put_others.Given as goal

abbrev pub invariant-loop-arg : goal.invariant-loop-arg
invariant-loop-arg g l = record {
  text : l.writer.text ≡ l.initial.writer.text ++ flat_map (behind l.source) (take l.arg-index l.args);
  begun : l.writer.begun ≡ l.initial.writer.begun;
  follows : Follows g.S.Sink.taken g.S.Sink.faults g.S.Sink.refused l.writer l.out;
}
