use Rattle.std.proofs.Common.{Bool, ap, ap₂, ◌∙◌}
use Rattle.cw_game.specs.Games.{weavers_in}
use Rattle.cw_linked.specs.declared.edges.Source.{Source}
use Rattle.cw_linked.specs.Waiting.{is_step}
use Rattle.cw_linked.proofs.edges.as_source.Goals as goal

pub returns : goal.returns
returns c =
    let source : Bool → Bool → Source = λ step visit. record { pos = c.args.pos; step = step; visit = visit } in
    ap₂ source (c.is_step.ensures ∙ ap is_step c.requires) (c.is_visit.ensures ∙ ap weavers_in c.requires)
