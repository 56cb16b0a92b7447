use Rattle.std.proofs.Common.{◌≡◌, ℕ, ◌+◌, Some, length, sym, subst, arith, ap, ◌∙◌}
use Rattle.std.specs.Prelude.{◌⊎◌, slice_get}
use Rattle.cw_product.specs.Product.{game_of}
use Rattle.cw_solve.proofs.Tabling.{there_at}
use Rattle.cw_linked.specs.Added.{AllOf, Each, HasNoHeights}
use Rattle.cw_linked.specs.Blocks.{IsBlock}
use Rattle.cw_linked.specs.Queues.{found_of}
use Rattle.cw_linked.specs.Spans.{LossesBefore}
use Rattle.cw_linked.specs.Works.{Known}
use Rattle.cw_linked.proofs.Alike.{alike}
use Rattle.cw_linked.proofs.Askings.{asks_nothing, asks_more}
use Rattle.cw_linked.proofs.Finishing.{next_known, next_right}
use Rattle.cw_linked.proofs.Spanning.{one_more_loss, closed_before, losses_passed}
use Rattle.cw_linked.proofs.asked.ask_all.Goals as goal

pub loop-p-init : goal.loop-p-init
loop-p-init c =
    let g = game_of c.args.game.now in
    let functions = length c.args.game.now.graph.parts.items in
    let w = c.args.work.now in
    let at = c.args.at.now in
    let span = c.args.spans.now.labels in
    let th = there_at g functions c.requires.routed w.blocks c.requires.known.blocks at.number at.context c.requires.tabled in
    asks_nothing g w c.requires.long c.requires.high c.requires.right at.number at.context (LossesBefore g span.first)
    (closed_before g functions c.requires.routed w.blocks.contexts.items (found_of g w) at.number at.context span c.requires.spans.labels th.below c.requires.fresh)

pub ask_position-requires : goal.ask_position-requires
ask_position-requires c =
    let g = game_of c.args.game.now in
    let functions = length c.args.game.now.graph.parts.items in
    let at = c.args.at.now in
    let inv = c.loop-p.invariant in
    let labels = c.requires.spans.labels in
    record {
      routed = c.requires.routed;
      known = next_known g functions c.requires.routed (alike c.args.game.now) c.args.work.now c.loop-p.work c.requires.known inv.step;
      tabled = subst (λ (t : Known). slice_get t.blocks.contexts.items at.number ≡ Some at.context) (sym inv.step.others.known) c.requires.tabled;
      block = subst (λ (t : Known). IsBlock g t.blocks at c.block_of-block.result) (sym inv.step.others.known) c.block_of-block.ensures;
      of = (omega (arith, c.loop-p.auto.p, labels.first), omega (arith, c.loop-p-test.true, labels.end));
      long = inv.step.long;
      high = inv.step.high;
      right = next_right g functions c.requires.routed (alike c.args.game.now) c.args.work.now c.loop-p.work c.requires.known inv.step;
      fresh = subst (λ (t : Known). HasNoHeights g t at) (sym inv.step.others.known) c.requires.fresh;
    }

pub loop-p-preserved : goal.loop-p-preserved
loop-p-preserved c =
    let g = game_of c.args.game.now in
    let at = c.args.at.now in
    let p = c.loop-p.p in
    asks_more g c.args.work.now c.loop-p.work c.ask_position.new.work at.number at.context (LossesBefore g p) (AllOf p) (LossesBefore g (p + 1)) c.loop-p.invariant
    c.in_ok-ask_position.ensures (λ r y is. one_more_loss g p r y)

pub exit-requires : goal.exit-requires
exit-requires c =
    let at = c.args.at.now in
    rw c.function.ensures (there_at (game_of c.args.game.now) (length c.args.game.now.graph.parts.items) c.requires.routed c.args.work.now.blocks c.requires.known.blocks at.number
    at.context c.requires.tabled).below

pub ask_position-requires-2 : goal.ask_position-requires-2
ask_position-requires-2 c =
    let g = game_of c.args.game.now in
    let functions = length c.args.game.now.graph.parts.items in
    let at = c.args.at.now in
    let inv = c.loop-p.invariant in
    let th = there_at g functions c.requires.routed c.args.work.now.blocks c.requires.known.blocks at.number at.context c.requires.tabled in
    let end = c.exit.ensures.is ∙ ap g.exit c.function.ensures in
    record {
      routed = c.requires.routed;
      known = next_known g functions c.requires.routed (alike c.args.game.now) c.args.work.now c.loop-p.work c.requires.known inv.step;
      tabled = subst (λ (t : Known). slice_get t.blocks.contexts.items at.number ≡ Some at.context) (sym inv.step.others.known) c.requires.tabled;
      block = subst (λ (t : Known). IsBlock g t.blocks at c.block_of-block.result) (sym inv.step.others.known) c.block_of-block.ensures;
      of = (omega (arith, end, th.begins), omega (arith, end));
      long = inv.step.long;
      high = inv.step.high;
      right = next_right g functions c.requires.routed (alike c.args.game.now) c.args.work.now c.loop-p.work c.requires.known inv.step;
      fresh = subst (λ (t : Known). HasNoHeights g t at) (sym inv.step.others.known) c.requires.fresh;
    }

pub returns : goal.returns
returns c =
    let g = game_of c.args.game.now in
    let at = c.args.at.now in
    let p = c.loop-p.p in
    let end = c.exit.ensures.is ∙ ap g.exit c.function.ensures in
    asks_more g c.args.work.now c.loop-p.work c.ask_position-2.new.work at.number at.context (LossesBefore g p) (AllOf c.exit.result.0) Each c.loop-p.invariant c.in_ok-ask_position-2.ensures
    (λ r y is e. subst (λ (z : ℕ). LossesBefore g p r y ⊎ AllOf z r y) (sym end)
    (losses_passed g at.context.function c.args.spans.now.labels c.requires.spans.labels p r y (omega (arith, c.loop-p-test.false)) is.of))
