use Rattle.std.proofs.Common.{◌≡◌, ◌++◌, drop, map}
use Rattle.std.specs.Fmt.{decimal}
use Rattle.cw_io.specs.Written.{Follows}
use Rattle.cw_listing.specs.Listing.{spaced, successors}
use Rattle.cw_listing.proofs.listing.put_successors.Given as goal

abbrev pub invariant-loop-point : goal.invariant-loop-point
invariant-loop-point g l = record {
  text : l.writer.text ++ spaced (map decimal (successors (drop l.point-index l.next))) ≡ l.initial.writer.text ++ spaced (map decimal (successors l.next));
  begun : l.writer.begun ≡ l.initial.writer.begun;
  follows : Follows g.S.Sink.taken g.S.Sink.faults g.S.Sink.refused l.writer l.out;
}
