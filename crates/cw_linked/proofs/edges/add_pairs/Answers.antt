use Rattle.std.proofs.Common.{sym, ap, ◌∙◌}
use Rattle.cw_product.specs.Product.{game_of}
use Rattle.cw_linked.specs.Edges.{changes_state}
use Rattle.cw_linked.proofs.Edging.{no_pair_more}
use Rattle.cw_linked.proofs.Reaching.{idle_leads}
use Rattle.cw_linked.proofs.edges.add_pairs.Goals as goal

pub returns-then-not-is_changing-clause-pairs : goal.returns-then-not-is_changing-clause-pairs
returns-then-not-is_changing-clause-pairs c =
    let g = game_of c.args.game.now in
    no_pair_more g c.args.flags.now c.args.pairs.now c.args.pos.0
    (λ n r x changing leads. idle_leads g c.args.pos.0 n r x (ap changes_state (sym c.spot.ensures) ∙ c.if-not-is_changing.ensures) changing leads) c.requires.before
