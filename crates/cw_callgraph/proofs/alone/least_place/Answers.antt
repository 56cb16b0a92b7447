use Rattle.std.proofs.Common.{List, map, ap₂, ◌∙◌}
use Rattle.cw_syntax.specs.declared.program.Function.{Function}
use Rattle.cw_callgraph.specs.declared.scopes.Known.{Known}
use Rattle.cw_callgraph.specs.Lowest.{at}
use Rattle.cw_callgraph.specs.Walking.{head_bar, body_bar}
use Rattle.cw_resolve.specs.Soonest.{sooner, soonest}
use Rattle.cw_callgraph.proofs.Spelled.{bar_at}
use Rattle.cw_callgraph.proofs.alone.least_place.Goals as goal

pub returns : goal.returns
returns c =
    let s = c.args.scene.now in
    let f = c.args.function in
    let bars = λ (known : List Known) (gs : List Function). map (body_bar s known) gs in
    let body =
    c.in_ok-body.ensures
    ∙ ap₂ (λ (known : List Known) (gs : List Function). sooner (at (bars known gs) f) (soonest (map (at (bars known gs)) c.args.reaches.now))) (c.deref.ensures.value ∙ c.in_ok-file.ensures) c.deref-2.ensures.value
    in
    c.sooner.ensures ∙ ap₂ sooner (c.head_place.ensures ∙ bar_at head_bar c.args.program.now.functions.items f c.index.result.now c.requires.own c.index.ensures) body
