use Rattle.std.proofs.Common.{◌≡◌, length, take}
use Rattle.std.specs.List.{flat_map}
use Rattle.cw_text.specs.Tapes.{fields, lines, AreNames}
use Rattle.cw_text.proofs.tapes.read_tape.Given as goal

abbrev pub invariant-loop-line : goal.invariant-loop-line
invariant-loop-line l = record {
  counted : l.number ≡ length l.yielded;
  names : AreNames l.play (flat_map fields (take (length l.yielded) (lines l.text))) l.moves.items;
}
