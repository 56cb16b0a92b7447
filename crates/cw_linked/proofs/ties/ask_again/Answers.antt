use Rattle.std.proofs.Common.{length, refl, subst, sym, arith}
use Rattle.cw_product.specs.Product.{game_of}
use Rattle.cw_linked.specs.declared.work.Cell.{Cell}
use Rattle.cw_linked.specs.Blocks.{IsBlock}
use Rattle.cw_linked.specs.Works.{Known}
use Rattle.cw_linked.proofs.Alike.{alike}
use Rattle.cw_linked.proofs.Finishing.{next_flagged}
use Rattle.cw_linked.proofs.Telling.{two_steps}
use Rattle.cw_linked.proofs.Tieing.{one_again, others_again, all_again}
use Rattle.cw_linked.proofs.ties.ask_again.Goals as goal

pub ask_back-requires-clause-block : goal.ask_back-requires-clause-block
ask_back-requires-clause-block c =
    subst (λ (t : Known). IsBlock (game_of c.args.game.now) t.blocks c.args.link.now.at c.block_of-block.result) (sym c.loop-q.invariant.step.others.known) c.block_of-block.ensures

pub ask_back-requires-clause-flagged : goal.ask_back-requires-clause-flagged
ask_back-requires-clause-flagged c =
    next_flagged (game_of c.args.game.now) (length c.args.game.now.graph.parts.items) c.requires.routed (alike c.args.game.now) c.args.work.now c.loop-q.work c.requires.known
    c.loop-q.invariant.step c.requires.flagged

pub loop-q-preserved : goal.loop-q-preserved
loop-q-preserved c =
    let g = game_of c.args.game.now in
    let functions = length c.args.game.now.graph.parts.items in
    let w = c.args.work.now in
    let mid = c.loop-q.work in
    let new = c.ask_back.new.work in
    let link = c.args.link.now in
    let cell : Cell = record { at = link.at; pos = c.args.back; state = record { 0 = c.loop-q.q } } in
    record {
      step = two_steps g w mid new c.loop-q.invariant.step c.in_ok-ask_back.ensures.step;
      others = others_again g functions c.requires.routed (alike c.args.game.now) w mid new c.requires.known c.loop-q.invariant.step link c.args.back.0 c.args.moves c.requires.returns cell
          c.in_ok-ask_back.ensures refl refl
          c.loop-q.invariant.others;
      before = one_again g functions c.requires.routed (alike c.args.game.now) w mid new c.requires.known c.loop-q.invariant.step link c.args.back.0 c.args.moves c.requires.returns cell
          c.in_ok-ask_back.ensures refl refl
          c.requires.wave c.loop-q.invariant.before;
    }

pub returns : goal.returns
returns c =
    let g = game_of c.args.game.now in
    let w = c.args.work.now in
    record {
      step = c.loop-q.invariant.step;
      standing = all_again g (length c.args.game.now.graph.parts.items) c.requires.routed
          (alike c.args.game.now) w c.loop-q.work c.requires.known c.loop-q.invariant.step c.args.link.now c.requires.cell c.requires.tied
          c.loop-q.q (omega (arith, c.loop-q-test.false, c.states-q-end.ensures)) c.loop-q.invariant.others c.loop-q.invariant.before;
    }
