use Rattle.std.proofs.Common.{◌≡◌, ◌∙◌, Some, length, subst, sym, ap, arith}
use Rattle.std.specs.Prelude.{slice_get}
use Rattle.cw_product.specs.Product.{game_of}
use Rattle.cw_solve.proofs.Tabling.{there_at}
use Rattle.cw_linked.specs.Blocks.{IsBlock}
use Rattle.cw_linked.specs.Queues.{found_of}
use Rattle.cw_linked.specs.Works.{Known}
use Rattle.cw_linked.proofs.Alike.{alike}
use Rattle.cw_linked.proofs.Telling.{nothing, two_steps}
use Rattle.cw_linked.proofs.Tieing.{all_from, none_from, one_from}
use Rattle.cw_linked.proofs.ties.ask_calls.Goals as goal

pub entry-entry-requires : goal.entry-entry-requires
entry-entry-requires c =
    let at = c.args.callee.now in
    rw c.function.ensures (there_at (game_of c.args.game.now) (length c.args.game.now.graph.parts.items) c.requires.routed c.args.work.now.blocks c.requires.known.blocks at.number
    at.context c.requires.callee).below

pub loop-q-init : goal.loop-q-init
loop-q-init c =
    let g = game_of c.args.game.now in
    let w = c.args.work.now in
    let link = c.args.link.now in
    record {
      step = nothing g w c.requires.long c.requires.high c.requires.right;
      left = all_from g (length c.args.game.now.graph.parts.items) c.requires.routed (alike c.args.game.now) w.blocks.contexts.items
          (found_of g w) link.at.number link.pos.0 link.state.0 c.requires.called;
    }

pub ask_lost-requires-clause-cell : goal.ask_lost-requires-clause-cell
ask_lost-requires-clause-cell c =
    let g = game_of c.args.game.now in
    let w = c.args.work.now in
    let callee = c.args.callee.now in
    let entry = c.entry-entry.ensures.is ∙ ap g.entry c.function.ensures in
    let begins = (there_at g (length c.args.game.now.graph.parts.items) c.requires.routed w.blocks c.requires.known.blocks callee.number callee.context c.requires.callee).begins in
    record {
      at = subst (λ (t : Known). slice_get t.blocks.contexts.items callee.number ≡ Some callee.context) (sym c.loop-q.invariant.step.others.known) c.requires.callee;
      of = (omega (arith, entry), omega (arith, begins, entry));
      state = omega (arith, c.loop-q-test.true, c.states-q-end.ensures);
    }

pub ask_lost-requires-clause-block : goal.ask_lost-requires-clause-block
ask_lost-requires-clause-block c =
    subst (λ (t : Known). IsBlock (game_of c.args.game.now) t.blocks c.args.callee.now c.block_of-block.result) (sym c.loop-q.invariant.step.others.known) c.block_of-block.ensures

pub ask_lost-requires-clause-entry : goal.ask_lost-requires-clause-entry
ask_lost-requires-clause-entry c = c.entry-entry.ensures.is ∙ ap (game_of c.args.game.now).entry c.function.ensures

pub loop-q-preserved : goal.loop-q-preserved
loop-q-preserved c =
    let g = game_of c.args.game.now in
    let functions = length c.args.game.now.graph.parts.items in
    let w = c.args.work.now in
    let mid = c.loop-q.work in
    let new = c.ask_lost.new.work in
    record {
      step = two_steps g w mid new c.loop-q.invariant.step c.in_ok-ask_lost.ensures.step;
      left = one_from g functions c.requires.routed (alike c.args.game.now) w mid new c.requires.known c.loop-q.invariant.step c.args.index c.args.link.now c.requires.at
          (record { at = c.args.callee.now; pos = c.entry-entry.result; state = record { 0 = c.loop-q.q } }) c.requires.callee
          (c.entry-entry.ensures.is ∙ ap g.entry c.function.ensures) c.requires.goes c.in_ok-ask_lost.ensures c.loop-q.invariant.left;
    }

pub returns : goal.returns
returns c =
    let g = game_of c.args.game.now in
    let w = c.args.work.now in
    let link = c.args.link.now in
    record {
      step = c.loop-q.invariant.step;
      called = none_from g (length c.args.game.now.graph.parts.items) c.requires.routed (alike c.args.game.now) w.blocks.contexts.items
          (found_of g c.loop-q.work) link.at.number link.pos.0 link.state.0 c.loop-q.q
          (omega (arith, c.loop-q-test.false, c.states-q-end.ensures)) c.loop-q.invariant.left;
    }
