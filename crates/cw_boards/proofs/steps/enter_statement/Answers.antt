use Rattle.cw_boards.specs.Held.{frame_in}
use Rattle.cw_boards.specs.Turns.{way_in}
use Rattle.cw_boards.proofs.Shapes.{for_enters}
use Rattle.cw_boards.proofs.steps.enter_statement.Goals as goal

pub returns-in-For : goal.returns-in-For
returns-in-For c =
    let s = c.args.scene.now in
    for_enters s c.args.statement.now.from c.args.seam c.args.statement.now.what c.in-For.field-0 c.in-For.field-1 (way_in c.args.way) (frame_in s c.args.rest) c.in-For.is
