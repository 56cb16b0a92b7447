use Rattle.std.proofs.Common.{length, sym, ◌∙◌}
use Rattle.std.specs.Prelude.{slice_get}
use Rattle.cw_product.specs.Product.{game_of}
use Rattle.cw_linked.proofs.Refusing.{behind_within}
use Rattle.cw_linked.proofs.edges.second_next.Goals as goal

pub returns-in-Some-true-clause-within : goal.returns-in-Some-true-clause-within
returns-in-Some-true-clause-within c =
    let g = game_of c.args.game.now in
    let p = c.args.pos.0 in (
      behind_within g (length g.spots) (length c.args.game.now.graph.parts.items) p (slice_get g.spots p) c.in-Some-true.field-0 (sym c.requires.refuses ∙ c.in-Some-true.is)
          (c.fact_is_closed.ensures.leads p),
      c.requires.state,
    )

pub returns-in-None-first-clause-within : goal.returns-in-None-first-clause-within
returns-in-None-first-clause-within c =
    let g = game_of c.args.game.now in
    let p = c.args.pos.0 in (
      behind_within g (length g.spots) (length c.args.game.now.graph.parts.items) p (slice_get g.spots p) c.in-Some-false.field-0 (sym c.requires.refuses ∙ c.in-Some-false.is)
          (c.fact_is_closed.ensures.leads p),
      c.requires.state,
    )
