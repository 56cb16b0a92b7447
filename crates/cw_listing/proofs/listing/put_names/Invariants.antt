use Rattle.std.proofs.Common.{◌≡◌, ◌++◌, take, map}
use Rattle.cw_resolve.specs.Held.{lists, name_in}
use Rattle.cw_io.specs.Written.{Follows}
use Rattle.cw_listing.specs.Listing.{spaced}
use Rattle.cw_listing.proofs.listing.put_names.Given as goal

abbrev pub invariant-loop-number : goal.invariant-loop-number
invariant-loop-number g l = record {
  text : l.writer.text ≡ l.initial.writer.text ++ spaced (map (name_in (lists l.names)) (take l.number-index l.numbers));
  begun : l.writer.begun ≡ l.initial.writer.begun;
  follows : Follows g.S.Sink.taken g.S.Sink.faults g.S.Sink.refused l.writer l.out;
}
