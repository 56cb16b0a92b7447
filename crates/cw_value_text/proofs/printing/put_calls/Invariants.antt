use Rattle.std.proofs.Common.{◌≡◌, ◌++◌, take}
use Rattle.std.specs.List.{flat_map}
use Rattle.cw_io.specs.Written.{Follows}
use Rattle.cw_value.specs.declared.values.Made.{Made}
use Rattle.cw_value.specs.Shown.{made_of}
use Rattle.cw_value_text.specs.ValuesText.{call_line}
use Rattle.cw_value_text.proofs.printing.put_calls.Given as goal

abbrev pub invariant-loop-one : goal.invariant-loop-one
invariant-loop-one g l = record {
  text : l.writer.text ≡ l.initial.writer.text ++ flat_map (λ (m : Made). call_line l.source (made_of m)) (take l.one-index l.made);
  begun : l.writer.begun ≡ l.initial.writer.begun;
  follows : Follows g.S.Sink.taken g.S.Sink.faults g.S.Sink.refused l.writer l.out;
}
