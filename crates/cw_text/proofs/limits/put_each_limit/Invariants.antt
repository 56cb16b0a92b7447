use Rattle.std.proofs.Common.{◌≡◌, ◌++◌, take}
use Rattle.cw_io.specs.Written.{Follows}
use Rattle.cw_rights.specs.Policies.{policy_of}
use Rattle.cw_text.specs.RowLines.{numbered}
use Rattle.cw_text.specs.LimitsText.{limit_text}
use Rattle.cw_text.proofs.limits.put_each_limit.Given as goal

abbrev pub invariant-loop-index : goal.invariant-loop-index
invariant-loop-index g l = record {
  text : l.writer.text ≡ l.initial.writer.text ++ numbered (limit_text (policy_of l.policy)) (take l.index l.limits);
  begun : l.writer.begun ≡ l.initial.writer.begun;
  follows : Follows g.S.Sink.taken g.S.Sink.faults g.S.Sink.refused l.writer l.out;
}
