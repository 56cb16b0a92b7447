use Rattle.std.proofs.Common.{◌≡◌, ◌++◌, map, take}
use Rattle.cw_rights.specs.Policies.{descriptor_of}
use Rattle.cw_io.specs.Written.{Follows}
use Rattle.cw_text.specs.RowLines.{numbered}
use Rattle.cw_trace.specs.Lines.{held_text}
use Rattle.cw_trace.proofs.lines.put_all_held.Given as goal

abbrev pub invariant-loop-number : goal.invariant-loop-number
invariant-loop-number g l = record {
  text : l.writer.text ≡ l.initial.writer.text ++ numbered (held_text l.caps) (map descriptor_of (take l.number l.descriptors));
  begun : l.writer.begun ≡ l.initial.writer.begun;
  follows : Follows g.S.Sink.taken g.S.Sink.faults g.S.Sink.refused l.writer l.out;
}
