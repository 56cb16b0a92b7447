use Rattle.std.proofs.Common.{subst}
use Rattle.cw_solve.specs.Solved.{Held, IsHeightIn}
use Rattle.cw_lazy_table.proofs.looked.Looked.height.Goals as goal

pub returns : goal.returns
returns c = subst (λ (s : Held). IsHeightIn s c.args.number c.args.pos.0 c.args.state.0 c.height.result) c.self.view_is c.height.ensures
