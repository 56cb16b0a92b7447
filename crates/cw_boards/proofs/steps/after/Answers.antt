use Rattle.std.proofs.Common.{Some, ap, sym, ◌∙◌}
use Rattle.cw_boards.specs.Held.{item_of, frame_in}
use Rattle.cw_boards.specs.Turns.{way_in, taken}
use Rattle.cw_boards.proofs.steps.after.Goals as goal

pub returns-in-Ends : goal.returns-in-Ends
returns-in-Ends c =
    let s = c.args.scene.now in
    ap Some (c.in_ok-next-in-Ends.ensures s) ∙ sym (ap (λ t. taken t (item_of s c.args.item) (way_in c.args.way) (frame_in s c.args.rest)) c.in-Ends.is)
