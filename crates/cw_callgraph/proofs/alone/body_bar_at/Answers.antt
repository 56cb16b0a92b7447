use Rattle.std.proofs.Common.{◌≡◌, ◌∙◌}
use Rattle.cw_callgraph.specs.Walking.{scene_at, file_at, body_bar}
use Rattle.cw_callgraph.proofs.Spelled.{bar_at}
use Rattle.cw_callgraph.proofs.Kept.{still}
use Rattle.cw_callgraph.proofs.alone.body_bar_at.Goals as goal

pub returns : goal.returns
returns c =
    let bar = body_bar (scene_at c.args.setting.now) (file_at c.args.setting.now) in
    let x = c.index-functions-function.result in
    still c.body_bar.result (λ place. place ≡ bar x) _ c.body_bar.ensures (λ place e. e ∙ bar_at bar c.args.functions.now c.args.function x c.requires.within c.index-functions-function.is)
