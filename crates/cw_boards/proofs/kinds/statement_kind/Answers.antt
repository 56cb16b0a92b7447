use Rattle.cw_boards.proofs.Shapes.{for_kind}
use Rattle.cw_boards.proofs.kinds.statement_kind.Goals as goal

pub returns-in-For : goal.returns-in-For
returns-in-For c = λ at. for_kind c.args.scene.now at c.args.what.now _ _ c.in-For.is
