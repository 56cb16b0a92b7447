use Rattle.std.proofs.Common.{ℕ, ◌∙◌, length, sym, ap}
use Rattle.cw_game.specs.Pairs.{has}
use Rattle.cw_product.specs.Product.{game_of}
use Rattle.cw_solve.specs.Asking.{holds_after}
use Rattle.cw_solve.specs.Rounds.{holds_by}
use Rattle.cw_solve.proofs.Calling.{moved}
use Rattle.cw_linked.specs.Founds.{implied}
use Rattle.cw_linked.specs.Works.{known_of, heights_of}
use Rattle.cw_linked.proofs.bounds.height_to.Goals as goal

pub height_in-requires-clause-cell : goal.height_in-requires-clause-cell
height_in-requires-clause-cell c =
    let g = game_of c.args.game.now in
    let functions = length c.args.game.now.graph.parts.items in
    moved g functions c.requires.routed c.args.work.now.blocks c.requires.known.blocks c.args.at.now c.args.pos.0 c.args.state.0 c.args.by c.args.to c.args.state.0 c.requires.cell
    c.requires.leads c.requires.cell.state

pub returns-clause-tells : goal.returns-clause-tells
returns-clause-tells c n =
    let at = c.args.at.now in
    let heights = heights_of (game_of c.args.game.now) (known_of c.args.work.now) in
    ap (λ (k : ℕ). holds_by n k) c.height_in.ensures.is ∙ ap (holds_after (implied heights at.number n) (has at.context.promise)) (sym c.requires.leads)

pub returns-clause-high : goal.returns-clause-high
returns-clause-high c = c.height_in.ensures.most 4194304 c.requires.high

pub returns-clause-most : goal.returns-clause-most
returns-clause-most c most up = c.height_in.ensures.most most up
