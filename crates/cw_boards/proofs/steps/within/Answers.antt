use Rattle.std.proofs.Common.{◌≡◌, Some, sym, ap, ◌∙◌}
use Rattle.std.specs.Prelude.{option_map}
use Rattle.cw_boards.specs.Held.{item_of, frame_in}
use Rattle.cw_boards.specs.Numbered.{most_seams}
use Rattle.cw_boards.specs.Turns.{way_in, taken}
use Rattle.cw_boards.proofs.Below.{taken_below}
use Rattle.cw_boards.proofs.steps.within.Goals as goal

-- what is left of a frame has the seams of the frame
pub settle-requires : goal.settle-requires
settle-requires c =
    let s = c.args.scene.now in
    let rest = frame_in s c.args.rest in
    let next = frame_in s c.in-Some.next in
    let is : taken c.args.turn (item_of s c.args.item) (way_in c.args.way) rest ≡ Some next = sym c.in_ok-after.ensures ∙ ap (option_map (frame_in s)) c.in-Some.is in
    record { below = taken_below most_seams c.args.turn (item_of s c.args.item) (way_in c.args.way) rest next is c.requires.item c.requires.rest }
