use Rattle.std.proofs.Common.{map, ap, sym, subst}
use Rattle.cw_boards.specs.Held.{item_of, frame_in}
use Rattle.cw_boards.specs.Numbered.{most_seams, FrameBelow}
use Rattle.cw_boards.proofs.Below.{settled_below, unsettled_below}
use Rattle.cw_boards.proofs.frames.settle.Goals as goal

-- what is left to rewrite has the seams of the frame
pub rewrite-requires : goal.rewrite-requires
rewrite-requires c =
    let s = c.args.scene.now in
    let settled = subst (FrameBelow most_seams) (sym c.loop-item.invariant) (settled_below most_seams (frame_in s c.args.frame) c.requires.below) in
    let below = unsettled_below most_seams (frame_in s c.loop-item.frame) settled in
    record { below = (subst (FrameBelow most_seams) (ap (map (item_of s)) c.in-Some.ensures.items) below).0 }
