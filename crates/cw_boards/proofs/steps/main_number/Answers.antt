use Rattle.std.proofs.Common.{◌∙◌, ap}
use Rattle.std.specs.Prelude.{codes, position}
use Rattle.std.specs.Str.{bytes_eq}
use Rattle.cw_resolve.proofs.Indices.{no_index}
use Rattle.cw_boards.proofs.steps.main_number.Goals as goal

pub returns-in-None : goal.returns-in-None
returns-in-None c =
    let names = c.args.scene.now.functions in
    c.function_count.ensures.count ∙ no_index (bytes_eq (codes "main")) names (c.in-None.ensures.number ∙ ap (λ m. position (bytes_eq m) names) c.main_text.ensures)
