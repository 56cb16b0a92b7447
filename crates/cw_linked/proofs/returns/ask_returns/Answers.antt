use Rattle.std.proofs.Common.{◌≡◌, ◌<◌, List, Some, length, get_or, subst, sym, arith}
use Rattle.std.specs.Prelude.{slice_get, Contains}
use Rattle.std.proofs.lemmas.List.Elements.{Contains-get_or}
use Rattle.std.proofs.lemmas.Option.{slice_get-get_or}
use Rattle.cw_core.specs.declared.ids.PosId.{PosId}
use Rattle.cw_product.specs.Product.{game_of}
use Rattle.cw_solve.proofs.Calling.{cell_within}
use Rattle.cw_linked.specs.Blocks.{IsBlock}
use Rattle.cw_linked.specs.Founds.{AllStanding}
use Rattle.cw_linked.specs.Works.{Known}
use Rattle.cw_linked.specs.Queues.{found_of}
use Rattle.cw_linked.proofs.Alike.{alike}
use Rattle.cw_linked.proofs.Backs.{ReturnsLeft, all_returns, no_returns}
use Rattle.cw_linked.proofs.Finishing.{next_flagged}
use Rattle.cw_linked.proofs.Returning.{asked_return_left}
use Rattle.cw_linked.proofs.Telling.{nothing, two_steps}
use Rattle.cw_linked.proofs.returns.ask_returns.Goals as goal

pub row-row-requires : goal.row-row-requires
row-row-requires c =
    let g = game_of c.args.game.now in
    let lt = cell_within g (length c.args.game.now.graph.parts.items) c.requires.routed c.args.work.now.blocks c.requires.known.blocks c.args.cell.now.at c.args.cell.now.pos.0 c.args.cell.now.state.0
    c.requires.cell in
    omega (arith, lt, c.requires.returns.rows)

pub loop-pos-init : goal.loop-pos-init
loop-pos-init c =
    let g = game_of c.args.game.now in
    let w = c.args.work.now in
    let cell = c.args.cell.now in
    record {
      step = nothing g w c.requires.long c.requires.high c.requires.right;
      left = subst (λ (row : List PosId). AllStanding g w.blocks.contexts.items (found_of g w) (ReturnsLeft g w.blocks.contexts.items (found_of g w) row 0 cell.at.number cell.pos.0 cell.state.0))
          (sym c.row-row.ensures)
          (all_returns g w.blocks.contexts.items (found_of g w) c.args.returns.now c.requires.returns (found_of g w) cell.at.number cell.pos.0 cell.state.0
          (λ i d p q is. cell_within g (length c.args.game.now.graph.parts.items) c.requires.routed w.blocks c.requires.known.blocks (record { number = i; context = d }) p q is) c.requires.standing);
    }

pub ask_return-requires-clause-position : goal.ask_return-requires-clause-position
ask_return-requires-clause-position c =
    let row = c.row-row.result.now in
    let n = c.loop-pos.pos-index in
    let pos : PosId = get_or row n (record { 0 = 0 }) in
    let lt : n < length row = c.loop-pos-test.true in
    c.requires.returns.fine c.args.cell.now.pos.0 pos (subst (λ (xs : List PosId). Contains xs pos) c.row-row.ensures (Contains-get_or row n (record { 0 = 0 }) lt))

pub ask_return-requires-clause-block : goal.ask_return-requires-clause-block
ask_return-requires-clause-block c =
    subst (λ (t : Known). IsBlock (game_of c.args.game.now) t.blocks c.args.cell.now.at c.args.block.now) (sym c.loop-pos.invariant.step.others.known) c.requires.block

pub ask_return-requires-clause-flagged : goal.ask_return-requires-clause-flagged
ask_return-requires-clause-flagged c =
    next_flagged (game_of c.args.game.now) (length c.args.game.now.graph.parts.items) c.requires.routed (alike c.args.game.now) c.args.work.now c.loop-pos.work c.requires.known
    c.loop-pos.invariant.step c.requires.flagged

pub loop-pos-preserved : goal.loop-pos-preserved
loop-pos-preserved c =
    let g = game_of c.args.game.now in
    let functions = length c.args.game.now.graph.parts.items in
    let w = c.args.work.now in
    let cell = c.args.cell.now in
    let row = c.row-row.result.now in
    let n = c.loop-pos.pos-index in
    let pos : PosId = get_or row n (record { 0 = 0 }) in
    let here : slice_get row n ≡ Some pos = slice_get-get_or row n (record { 0 = 0 }) c.loop-pos-test.true in
    record {
      step = two_steps g w c.loop-pos.work c.ask_return.new.work c.loop-pos.invariant.step c.in_ok-ask_return.ensures.step;
      left = asked_return_left g functions c.requires.routed (alike c.args.game.now) w c.loop-pos.work c.ask_return.new.work c.requires.known c.loop-pos.invariant.step row n cell pos
          c.requires.cell.at here c.in_ok-ask_return.ensures c.loop-pos.invariant.left;
    }

pub returns : goal.returns
returns c =
    let g = game_of c.args.game.now in
    let w = c.args.work.now in
    let cell = c.args.cell.now in
    record {
      step = c.loop-pos.invariant.step;
      standing = no_returns g w.blocks.contexts.items (found_of g w) c.row-row.result.now c.loop-pos.pos-index c.loop-pos-test.false (found_of g c.loop-pos.work) cell.at.number cell.pos.0 cell.state.0
          c.loop-pos.invariant.left;
    }
