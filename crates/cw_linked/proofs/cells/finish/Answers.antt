use Rattle.std.proofs.Common.{◌≡◌, ◌<◌, length, min, true, false, get_or, subst, sym, ◌∙◌, arith}
use Rattle.cw_product.specs.Product.{game_of}
use Rattle.cw_solve.proofs.Calling.{cell_within}
use Rattle.cw_solve.proofs.Tabling.{there_at}
use Rattle.cw_linked.specs.Blocks.{IsBlock}
use Rattle.cw_linked.specs.Founds.{AllClosed}
use Rattle.cw_linked.specs.Queues.{found_of}
use Rattle.cw_linked.specs.Waiting.{ChangesFor}
use Rattle.cw_linked.specs.Works.{Known}
use Rattle.cw_linked.proofs.Alike.{alike}
use Rattle.cw_linked.proofs.Finishing.{next_known, next_callers, next_flagged, next_right, next_cell, next_height, one_known, one_called, two_known, two_few, two_standing, finished}
use Rattle.cw_linked.proofs.Plain.{plain_finished}
use Rattle.cw_linked.proofs.Telling.{two_steps}
use Rattle.cw_linked.proofs.Waits.{asked_both}
use Rattle.cw_linked.proofs.cells.finish.Goals as goal

pub ask_sources-requires : goal.ask_sources-requires
ask_sources-requires c =
    let t = c.requires.taken in
    record {
      routed = c.requires.routed;
      sources = c.requires.waits.sources;
      known = t.known;
      cell = t.there;
      block = c.requires.block;
      long = t.long;
      high = t.high;
      right = t.right;
      taken = t.taken;
      some = t.some;
      closed = t.closed;
    }

pub is_plain-requires : goal.is_plain-requires
is_plain-requires c =
    let g = game_of c.args.game.now in
    let cell = c.args.cell.now in
    let t = c.requires.taken in
    let lt = cell_within g (length c.args.game.now.graph.parts.items) c.requires.routed c.args.work.now.blocks t.known.blocks cell.at cell.pos.0 cell.state.0 t.there in
    omega (arith, lt, c.requires.plain.long)

pub returns-then-is_plain : goal.returns-then-is_plain
returns-then-is_plain c =
    let g = game_of c.args.game.now in
    let functions = length c.args.game.now.graph.parts.items in
    let w = c.args.work.now in
    let cell = c.args.cell.now in
    let t = c.requires.taken in
    let there = there_at g functions c.requires.routed w.blocks t.known.blocks cell.at.number cell.at.context t.there.at in
    let many : cell.at.context.function < min functions 65536 = omega (arith, there.below, c.fact_functions_are_few.ensures) in
    let flagged : get_or c.args.edges.now.plain.items cell.pos.0 false ≡ true = sym c.is_plain.ensures ∙ c.if-is_plain.true in
    plain_finished g functions c.requires.routed (alike c.args.game.now) w c.ask_sources.new.work cell c.args.height t c.in_ok-ask_sources.ensures (min functions 65536)
    (c.requires.plain.are cell.pos.0 flagged) many

pub ask_changes-requires : goal.ask_changes-requires
ask_changes-requires c =
    let g = game_of c.args.game.now in
    let functions = length c.args.game.now.graph.parts.items in
    let w = c.args.work.now in
    let one = c.ask_sources.new.work in
    let cell = c.args.cell.now in
    let t = c.requires.taken in
    let first = c.in_ok-ask_sources.ensures in
    record {
      routed = c.requires.routed;
      changes = c.requires.waits.changes;
      known = next_known g functions c.requires.routed (alike c.args.game.now) w one t.known first.step;
      cell = next_cell g functions c.requires.routed (alike c.args.game.now) w one t.known first.step cell t.there;
      block = subst (λ (t : Known). IsBlock g t.blocks cell.at c.args.block.now) (sym first.step.others.known) c.requires.block;
      long = first.step.long;
      high = first.step.high;
      right = next_right g functions c.requires.routed (alike c.args.game.now) w one t.known first.step;
      taken = next_height g functions c.requires.routed (alike c.args.game.now) w one t.known first.step cell c.args.height t.taken;
      some = t.some;
      closed = subst (λ (t : Known). AllClosed g t.blocks.contexts.items (found_of g one) (ChangesFor g cell.at.number cell.pos.0 cell.state.0)) (sym first.step.others.known) first.closed;
    }

pub ask_entry-requires : goal.ask_entry-requires
ask_entry-requires c =
    let g = game_of c.args.game.now in
    let functions = length c.args.game.now.graph.parts.items in
    let w = c.args.work.now in
    let one = c.ask_changes.new.work in
    let cell = c.args.cell.now in
    let t = c.requires.taken in
    let waiting = asked_both g w c.ask_sources.new.work one cell c.in_ok-ask_sources.ensures c.in_ok-ask_changes.ensures in
    record {
      routed = c.requires.routed;
      known = one_known g functions c.requires.routed (alike c.args.game.now) w one one one cell c.args.height t waiting;
      cell = next_cell g functions c.requires.routed (alike c.args.game.now) w one t.known waiting.step cell t.there;
      block = subst (λ (t : Known). IsBlock g t.blocks cell.at c.args.block.now) (sym waiting.step.others.known) c.requires.block;
      taken = next_height g functions c.requires.routed (alike c.args.game.now) w one t.known waiting.step cell c.args.height t.taken;
      some = t.some;
      callers = next_callers g functions c.requires.routed (alike c.args.game.now) w one t.known waiting.step t.callers;
      flagged = next_flagged g functions c.requires.routed (alike c.args.game.now) w one t.known waiting.step t.flagged;
      long = waiting.step.long;
      high = waiting.step.high;
      right = next_right g functions c.requires.routed (alike c.args.game.now) w one t.known waiting.step;
      called = one_called g functions c.requires.routed (alike c.args.game.now) w one one one cell c.args.height t waiting;
    }

pub ask_returns-requires : goal.ask_returns-requires
ask_returns-requires c =
    let g = game_of c.args.game.now in
    let functions = length c.args.game.now.graph.parts.items in
    let w = c.args.work.now in
    let one = c.ask_changes.new.work in
    let two = c.ask_entry.new.work in
    let cell = c.args.cell.now in
    let t = c.requires.taken in
    let waiting = asked_both g w c.ask_sources.new.work one cell c.in_ok-ask_sources.ensures c.in_ok-ask_changes.ensures in
    let callers = c.in_ok-ask_entry.ensures in
    let step = two_steps g w one two waiting.step callers.step in
    record {
      routed = c.requires.routed;
      returns = c.requires.returns;
      known = two_known g functions c.requires.routed (alike c.args.game.now) w one two two cell c.args.height t waiting callers;
      cell = next_cell g functions c.requires.routed (alike c.args.game.now) w two t.known step cell t.there;
      block = subst (λ (t : Known). IsBlock g t.blocks cell.at c.args.block.now) (sym step.others.known) c.requires.block;
      taken = next_height g functions c.requires.routed (alike c.args.game.now) w two t.known step cell c.args.height t.taken;
      some = t.some;
      few = two_few g functions c.requires.routed (alike c.args.game.now) w one two two cell c.args.height t waiting callers;
      flagged = next_flagged g functions c.requires.routed (alike c.args.game.now) w two t.known step t.flagged;
      long = step.long;
      high = step.high;
      right = next_right g functions c.requires.routed (alike c.args.game.now) w two t.known step;
      standing = two_standing g functions c.requires.routed (alike c.args.game.now) w one two two cell c.args.height t waiting callers;
    }

pub returns : goal.returns
returns c =
    let g = game_of c.args.game.now in
    let w = c.args.work.now in
    let one = c.ask_changes.new.work in
    let waiting = asked_both g w c.ask_sources.new.work one c.args.cell.now c.in_ok-ask_sources.ensures c.in_ok-ask_changes.ensures in
    finished g (length c.args.game.now.graph.parts.items) c.requires.routed (alike c.args.game.now) w one c.ask_entry.new.work c.ask_returns.new.work
    c.args.cell.now c.args.height c.requires.taken waiting c.in_ok-ask_entry.ensures c.in_ok-ask_returns.ensures
