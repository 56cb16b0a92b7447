use Rattle.std.proofs.Common.{◌≡◌, ◌<◌, List, false, Some, length, get_or, subst, sym, arith}
use Rattle.std.specs.Prelude.{slice_get, Contains}
use Rattle.std.proofs.lemmas.List.Elements.{Contains-get_or}
use Rattle.std.proofs.lemmas.Option.{slice_get-get_or}
use Rattle.cw_product.specs.Product.{game_of}
use Rattle.cw_solve.proofs.Calling.{cell_within}
use Rattle.cw_linked.specs.declared.edges.Source.{Source}
use Rattle.cw_linked.specs.Blocks.{IsBlock}
use Rattle.cw_linked.specs.Founds.{AllClosed}
use Rattle.cw_linked.specs.Queues.{found_of}
use Rattle.cw_linked.specs.Works.{Known, heights_of}
use Rattle.cw_linked.proofs.Alike.{alike}
use Rattle.cw_linked.proofs.Telling.{nothing, two_steps}
use Rattle.cw_linked.proofs.Waits.{SourcesLeft, sources_left, asked_source_left, no_source_left}
use Rattle.cw_linked.proofs.waiting.ask_sources.Goals as goal

pub row-row-requires : goal.row-row-requires
row-row-requires c =
    let g = game_of c.args.game.now in
    let cell = c.args.cell.now in
    let lt = cell_within g (length c.args.game.now.graph.parts.items) c.requires.routed c.args.work.now.blocks c.requires.known.blocks cell.at cell.pos.0 cell.state.0 c.requires.cell in
    omega (arith, lt, c.requires.sources.rows)

pub loop-source-init : goal.loop-source-init
loop-source-init c =
    let g = game_of c.args.game.now in
    let w = c.args.work.now in
    let cell = c.args.cell.now in
    record {
      step = nothing g w c.requires.long c.requires.high c.requires.right;
      left = subst (λ (row : List Source). AllClosed g w.blocks.contexts.items (found_of g w) (SourcesLeft g row 0 cell.at.number cell.pos.0 cell.state.0)) (sym c.row-row.ensures)
          (sources_left g w.blocks.contexts.items c.args.sources.now (found_of g w) c.requires.sources cell.at.number cell.pos.0 cell.state.0
          (λ i d p q is. cell_within g (length c.args.game.now.graph.parts.items) c.requires.routed w.blocks c.requires.known.blocks (record { number = i; context = d }) p q is) c.requires.closed);
    }

pub ask_source-requires-clause-step : goal.ask_source-requires-clause-step
ask_source-requires-clause-step c =
    let row = c.row-row.result.now in
    let n = c.loop-source.source-index in
    let lt : n < length row = c.loop-source-test.true in
    let source : Source = get_or row n (record { pos = record { 0 = 0 }; step = false; visit = false }) in
    c.requires.sources.steps c.args.cell.now.pos.0 source
    (subst (λ (xs : List Source). Contains xs source) c.row-row.ensures (Contains-get_or row n (record { pos = record { 0 = 0 }; step = false; visit = false }) lt))

pub ask_source-requires-clause-visit : goal.ask_source-requires-clause-visit
ask_source-requires-clause-visit c =
    let row = c.row-row.result.now in
    let n = c.loop-source.source-index in
    let lt : n < length row = c.loop-source-test.true in
    let source : Source = get_or row n (record { pos = record { 0 = 0 }; step = false; visit = false }) in
    c.requires.sources.visits c.args.cell.now.pos.0 source
    (subst (λ (xs : List Source). Contains xs source) c.row-row.ensures (Contains-get_or row n (record { pos = record { 0 = 0 }; step = false; visit = false }) lt))

pub ask_source-requires-clause-taken : goal.ask_source-requires-clause-taken
ask_source-requires-clause-taken c =
    subst (λ (t : Known). heights_of (game_of c.args.game.now) t c.args.cell.now.at.number c.args.cell.now.pos.0 c.args.cell.now.state.0 ≡ c.args.height)
    (sym c.loop-source.invariant.step.others.known) c.requires.taken

pub ask_source-requires-clause-block : goal.ask_source-requires-clause-block
ask_source-requires-clause-block c =
    subst (λ (t : Known). IsBlock (game_of c.args.game.now) t.blocks c.args.cell.now.at c.args.block.now) (sym c.loop-source.invariant.step.others.known) c.requires.block

pub loop-source-preserved : goal.loop-source-preserved
loop-source-preserved c =
    let g = game_of c.args.game.now in
    let functions = length c.args.game.now.graph.parts.items in
    let w = c.args.work.now in
    let cell = c.args.cell.now in
    let row = c.row-row.result.now in
    let n = c.loop-source.source-index in
    let source : Source = get_or row n (record { pos = record { 0 = 0 }; step = false; visit = false }) in
    let here : slice_get row n ≡ Some source = slice_get-get_or row n (record { pos = record { 0 = 0 }; step = false; visit = false }) c.loop-source-test.true in
    record {
      step = two_steps g w c.loop-source.work c.ask_source.new.work c.loop-source.invariant.step c.in_ok-ask_source.ensures.step;
      left = asked_source_left g functions c.requires.routed (alike c.args.game.now) w c.loop-source.work c.ask_source.new.work c.requires.known c.loop-source.invariant.step row n cell
          c.requires.cell.at source here c.in_ok-ask_source.ensures c.loop-source.invariant.left;
    }

pub returns : goal.returns
returns c =
    let g = game_of c.args.game.now in
    let w = c.args.work.now in
    let cell = c.args.cell.now in
    record {
      step = c.loop-source.invariant.step;
      closed = no_source_left g w.blocks.contexts.items (found_of g c.loop-source.work) c.row-row.result.now c.loop-source.source-index cell.at.number cell.pos.0 cell.state.0 c.loop-source-test.false
          c.loop-source.invariant.left;
    }
