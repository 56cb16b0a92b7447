use Rattle.std.proofs.Common.{◌≡◌, ◌++◌, take}
use Rattle.cw_text.specs.RowLines.{numbered}
use Rattle.cw_resolve.specs.Held.{lists}
use Rattle.cw_io.specs.Written.{Follows}
use Rattle.cw_listing.specs.Listing.{point_line}
use Rattle.cw_listing.proofs.listing.put_points.Given as goal

abbrev pub invariant-loop-number : goal.invariant-loop-number
invariant-loop-number g l = record {
  text : l.writer.text ≡ l.initial.writer.text ++ numbered (point_line (lists l.names.functions.now) (lists l.names.labels.now) (lists l.names.descriptors.now)) (take l.number l.nodes);
  begun : l.writer.begun ≡ l.initial.writer.begun;
  follows : Follows g.S.Sink.taken g.S.Sink.faults g.S.Sink.refused l.writer l.out;
}
