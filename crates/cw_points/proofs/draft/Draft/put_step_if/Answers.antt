use Rattle.std.proofs.Common.{ap, sym, ◌∙◌}
use Rattle.cw_points.specs.Graphs.{step_nodes}
use Rattle.cw_points.specs.Drawing.{drawn_of, with_nodes}
use Rattle.cw_points.proofs.Drawn.{nothing_more}
use Rattle.cw_points.proofs.draft.Draft.put_step_if.Goals as goal

pub returns-else-there : goal.returns-else-there
returns-else-there c =
    let d = drawn_of c.args.self.now in
    nothing_more d ∙ sym (ap (λ there. with_nodes (step_nodes c.args.function there c.args.test) d) c.if-there.false)
