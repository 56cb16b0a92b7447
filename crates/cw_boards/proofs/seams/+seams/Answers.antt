use Rattle.std.proofs.Common.{ap, sym, ◌∙◌}
use Rattle.cw_syntax.specs.Plans.{seams, seams_all}
use Rattle.cw_resolve.specs.Scenes.{stms_in}
use Rattle.cw_resolve.proofs.Shapes.{block_steps}
use Rattle.cw_boards.specs.Numbered.{capped}
use Rattle.cw_boards.proofs.seams.+seams.Goals as goal

pub seams-returns-in-Block : goal.seams-returns-in-Block
seams-returns-in-Block t c =
    let s = c.args.scene.now in
    c.seams_all.ensures
    ∙ ap capped (ap (λ l. seams_all (stms_in s l)) c.deref.ensures.value ∙ sym (ap seams (block_steps s c.args.statement.now.from c.args.statement.now.what c.in-Block.statements c.in-Block.is)))
