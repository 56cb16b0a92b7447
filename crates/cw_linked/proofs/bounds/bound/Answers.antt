use Rattle.std.proofs.Common.{length, sym, ◌∙◌}
use Rattle.std.specs.Prelude.{slice_get}
use Rattle.std.proofs.lemmas.Bool.{false≢true}
use Rattle.cw_game.specs.Pairs.{has}
use Rattle.cw_product.specs.Product.{game_of}
use Rattle.cw_solve.proofs.Calling.{cell_within}
use Rattle.cw_solve.proofs.Moves.{by_moves}
use Rattle.cw_linked.specs.Founds.{implied}
use Rattle.cw_linked.specs.Works.{known_of, heights_of}
use Rattle.cw_linked.proofs.Bounding.{plain_spot}
use Rattle.cw_linked.proofs.bounds.bound.Goals as goal

pub spot-spot-requires : goal.spot-spot-requires
spot-spot-requires c =
    let g = game_of c.args.game.now in
    let functions = length c.args.game.now.graph.parts.items in
    cell_within g functions c.requires.routed c.args.work.now.blocks c.requires.known.blocks c.args.at.now c.args.pos.0 c.args.state.0 c.requires.cell

pub bad-requires-clause-position : goal.bad-requires-clause-position
bad-requires-clause-position c =
    let g = game_of c.args.game.now in
    let functions = length c.args.game.now.graph.parts.items in
    cell_within g functions c.requires.routed c.args.work.now.blocks c.requires.known.blocks c.args.at.now c.args.pos.0 c.args.state.0 c.requires.cell

pub returns-in_default : goal.returns-in_default
returns-in_default c =
    let g = game_of c.args.game.now in
    let heights = heights_of g (known_of c.args.work.now) in
    let promise = has c.args.at.now.context.promise in
    let spot = slice_get g.spots c.args.pos.0 in
    let d = c.in_default in
    let plain = plain_spot g c.args.state.0 spot c.spot-spot.result c.spot-spot.ensures d.not-Label d.not-Call d.not-SplitCall d.not-Exit in
    record {
      implied = λ _ n. c.moves_bound-in_default.ensures.tells n ∙ by_moves g (implied heights c.args.at.now.number n) c.args.pos.0 c.args.state.0 promise spot plain.0 plain.1 plain.2;
      call = λ call. absurd (false≢true (sym plain.1 ∙ call));
      high = λ most up. c.moves_bound-in_default.ensures.high most up;
    }
