use Rattle.std.proofs.Common.{◌≡◌, false, length, refl, sym, ◌∙◌, arith, rules}
use Rattle.std.specs.Prelude.{slice_get}
use Rattle.cw_game.specs.Pairs.{is_exit_in}
use Rattle.cw_product.specs.Product.{game_of}
use Rattle.cw_solve.proofs.Calling.{cell_within}
use Rattle.cw_solve.proofs.Tabling.{there_at}
use Rattle.cw_linked.specs.Works.{known_of, heights_of}
use Rattle.cw_linked.proofs.Passing.{no_bound, quiet_spot}
use Rattle.cw_linked.proofs.bounds.first_bound.Goals as goal

pub spot-spot-requires : goal.spot-spot-requires
spot-spot-requires c =
    let g = game_of c.args.game.now in
    let functions = length c.args.game.now.graph.parts.items in
    cell_within g functions c.requires.routed c.args.work.now.blocks c.requires.known.blocks c.args.at.now c.args.pos.0 c.args.state.0 c.requires.cell

pub bad-requires-clause-position : goal.bad-requires-clause-position
bad-requires-clause-position c =
    let g = game_of c.args.game.now in
    let functions = length c.args.game.now.graph.parts.items in
    cell_within g functions c.requires.routed c.args.work.now.blocks c.requires.known.blocks c.args.at.now c.args.pos.0 c.args.state.0 c.requires.cell

pub returns-else-bad-clause-implied : goal.returns-else-bad-clause-implied
returns-else-bad-clause-implied c plain =
    let g = game_of c.args.game.now in
    let functions = length c.args.game.now.graph.parts.items in
    let w = c.args.work.now in
    let at = c.args.at.now in
    let inner : is_exit_in (slice_get g.spots c.args.pos.0) ≡ false = search rules in
    let th = there_at g functions c.requires.routed w.blocks c.requires.known.blocks at.number at.context c.requires.cell.at in
    no_bound g functions c.requires.routed w.blocks.contexts.items (heights_of g (known_of w)) at.number at.context c.args.pos.0 c.args.state.0 th.below c.requires.cell plain inner
    (sym c.bad.ensures ∙ c.if-bad.false) c.requires.fresh

pub returns-in_default : goal.returns-in_default
returns-in_default c =
    let g = game_of c.args.game.now in
    let functions = length c.args.game.now.graph.parts.items in
    let w = c.args.work.now in
    let at = c.args.at.now in
    let d = c.in_default in
    let quiet = quiet_spot g c.args.state.0 (slice_get g.spots c.args.pos.0) c.spot-spot.result c.spot-spot.ensures d.not-Label d.not-Exit in
    let th = there_at g functions c.requires.routed w.blocks c.requires.known.blocks at.number at.context c.requires.cell.at in
    record {
      implied = λ plain. no_bound g functions c.requires.routed w.blocks.contexts.items (heights_of g (known_of w)) at.number at.context c.args.pos.0 c.args.state.0 th.below c.requires.cell plain
          quiet.1 quiet.0 c.requires.fresh;
      call = λ _. refl;
      most = omega arith;
    }
