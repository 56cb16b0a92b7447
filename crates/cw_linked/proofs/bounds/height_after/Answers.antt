use Rattle.std.proofs.Common.{ℕ, ◌∙◌, length, sym, ap}
use Rattle.cw_game.specs.Pairs.{has}
use Rattle.cw_product.specs.Product.{game_of}
use Rattle.cw_solve.specs.Asking.{holds_after}
use Rattle.cw_solve.specs.Rounds.{holds_by}
use Rattle.cw_solve.proofs.Calling.{cell_within, moved}
use Rattle.cw_linked.specs.Founds.{implied}
use Rattle.cw_linked.specs.Works.{known_of, heights_of}
use Rattle.cw_linked.proofs.bounds.height_after.Goals as goal

pub next-requires-clause-position : goal.next-requires-clause-position
next-requires-clause-position c =
    let g = game_of c.args.game.now in
    let functions = length c.args.game.now.graph.parts.items in
    cell_within g functions c.requires.routed c.args.work.now.blocks c.requires.known.blocks c.args.at.now c.args.pos.0 c.args.state.0 c.requires.cell

pub height_in-requires-clause-cell : goal.height_in-requires-clause-cell
height_in-requires-clause-cell c =
    let g = game_of c.args.game.now in
    let functions = length c.args.game.now.graph.parts.items in
    moved g functions c.requires.routed c.args.work.now.blocks c.requires.known.blocks c.args.at.now c.args.pos.0 c.args.state.0 c.args.by c.in-Some.pos.0 c.in-Some.state.0 c.requires.cell
    (sym c.in-Some.ensures.is) c.in-Some.ensures.within.1

pub returns-in-Some-clause-tells : goal.returns-in-Some-clause-tells
returns-in-Some-clause-tells c n =
    let at = c.args.at.now in
    let heights = heights_of (game_of c.args.game.now) (known_of c.args.work.now) in
    ap (λ (k : ℕ). holds_by n k) c.height_in.ensures.is ∙ ap (holds_after (implied heights at.number n) (has at.context.promise)) c.in-Some.ensures.is

pub returns-in-Some-clause-high : goal.returns-in-Some-clause-high
returns-in-Some-clause-high c = c.height_in.ensures.most 4194304 c.requires.high

pub returns-in-Some-clause-most : goal.returns-in-Some-clause-most
returns-in-Some-clause-most c most up = c.height_in.ensures.most most up
