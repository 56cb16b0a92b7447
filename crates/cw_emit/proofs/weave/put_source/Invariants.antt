use Rattle.std.proofs.Common.{◌≡◌, ◌++◌, length, drop, map}
use Rattle.cw_io.specs.Written.{Follows}
use Rattle.cw_rights.specs.Policies.{policy_of}
use Rattle.cw_syntax.specs.Marks.{mark_of, AreInOrder}
use Rattle.cw_emit.specs.Woven.{woven, woven_from}
use Rattle.cw_emit.proofs.weave.put_source.Given as goal

abbrev pub invariant-loop-mark : goal.invariant-loop-mark
invariant-loop-mark g l = record {
  whole : l.writer.text ++ woven_from (policy_of l.policy) l.source l.at (map mark_of (drop l.mark-index l.marks)) ≡ l.initial.writer.text ++ woven (policy_of l.policy) l.source (map mark_of l.marks);
  order : AreInOrder l.at (length l.source) (map mark_of (drop l.mark-index l.marks));
  begun : l.writer.begun ≡ l.initial.writer.begun;
  follows : Follows g.S.Sink.taken g.S.Sink.faults g.S.Sink.refused l.writer l.out;
}
