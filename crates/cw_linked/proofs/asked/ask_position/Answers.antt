use Rattle.std.proofs.Common.{◌≡◌, ◌+◌, ◌∙◌, ℕ, Some, length, sym, subst, arith}
use Rattle.std.specs.Prelude.{slice_get}
use Rattle.cw_product.specs.Product.{game_of}
use Rattle.cw_solve.proofs.Tabling.{there_at}
use Rattle.cw_linked.specs.Added.{ThePair, FirstOf, AllOf, HasNoHeights}
use Rattle.cw_linked.specs.Blocks.{IsBlock}
use Rattle.cw_linked.specs.Founds.{IsClosed}
use Rattle.cw_linked.specs.Queues.{found_of}
use Rattle.cw_linked.specs.Works.{Known}
use Rattle.cw_linked.proofs.Alike.{alike}
use Rattle.cw_linked.proofs.Askings.{asks_nothing, asks_one, asks_more, asks_these, one_more_state}
use Rattle.cw_linked.proofs.Finishing.{next_known, next_right}
use Rattle.cw_linked.proofs.Passing.{closed_fresh}
use Rattle.cw_linked.proofs.asked.ask_position.Goals as goal

pub loss_begins-requires : goal.loss_begins-requires
loss_begins-requires c =
    let at = c.args.at.now in
    let th = there_at (game_of c.args.game.now) (length c.args.game.now.graph.parts.items) c.requires.routed c.args.work.now.blocks c.requires.known.blocks at.number at.context c.requires.tabled in
    omega (arith, th.ends, c.requires.of.1)

pub returns-then-not-loss_begins : goal.returns-then-not-loss_begins
returns-then-not-loss_begins c =
    let g = game_of c.args.game.now in
    let functions = length c.args.game.now.graph.parts.items in
    let w = c.args.work.now in
    let at = c.args.at.now in
    let th = there_at g functions c.requires.routed w.blocks c.requires.known.blocks at.number at.context c.requires.tabled in
    asks_nothing g w c.requires.long c.requires.high c.requires.right at.number at.context (AllOf c.args.pos.0)
    (λ p q is e.
    subst (λ (y : ℕ). IsClosed g (found_of g w) at.number at.context y q) (sym e)
    (closed_fresh g functions c.requires.routed w.blocks.contexts.items (found_of g w) at.number at.context c.args.pos.0 q th.below
    (record { at = c.requires.tabled; of = c.requires.of; state = is.state })
    (sym c.loss_begins.ensures ∙ c.if-not-loss_begins.true) c.requires.fresh))

pub loop-x-init : goal.loop-x-init
loop-x-init c =
    let g = game_of c.args.game.now in
    let w = c.args.work.now in
    let at = c.args.at.now in
    asks_nothing g w c.requires.long c.requires.high c.requires.right at.number at.context (FirstOf c.args.pos.0 0) (λ p q is e. absurd (omega (arith, e.1)))

pub ask_first-requires : goal.ask_first-requires
ask_first-requires c =
    let g = game_of c.args.game.now in
    let functions = length c.args.game.now.graph.parts.items in
    let at = c.args.at.now in
    let inv = c.loop-x.invariant in
    record {
      routed = c.requires.routed;
      known = next_known g functions c.requires.routed (alike c.args.game.now) c.args.work.now c.loop-x.work c.requires.known inv.step;
      cell = record {
        at = subst (λ (t : Known). slice_get t.blocks.contexts.items at.number ≡ Some at.context) (sym inv.step.others.known) c.requires.tabled;
        of = c.requires.of;
        state = omega (arith, c.loop-x-test.true, c.states-x-end.ensures);
      };
      fresh = subst (λ (t : Known). HasNoHeights g t at) (sym inv.step.others.known) c.requires.fresh;
      block = subst (λ (t : Known). IsBlock g t.blocks at c.args.block.now) (sym inv.step.others.known) c.requires.block;
      long = inv.step.long;
      high = inv.step.high;
      right = next_right g functions c.requires.routed (alike c.args.game.now) c.args.work.now c.loop-x.work c.requires.known inv.step;
    }

pub loop-x-preserved : goal.loop-x-preserved
loop-x-preserved c =
    let g = game_of c.args.game.now in
    let at = c.args.at.now in
    let mid = c.loop-x.work in
    let new = c.ask_first.new.work in
    let p = c.args.pos.0 in
    let x = c.loop-x.x in
    let implied = c.in_ok-ask_first.ensures in
    asks_more g c.args.work.now mid new at.number at.context (FirstOf p x) (ThePair p x) (FirstOf p (x + 1)) c.loop-x.invariant
    (asks_one g mid new at.number at.context p x implied.step implied.closed implied.due) (λ r y is. one_more_state p x r y)

pub returns : goal.returns
returns c =
    let g = game_of c.args.game.now in
    let at = c.args.at.now in
    let all : c.loop-x.x ≡ g.states.count = omega (arith, c.loop-x-test.false, c.loop-x.auto.x-end, c.states-x-end.ensures) in
    asks_these g c.args.work.now c.loop-x.work at.number at.context (FirstOf c.args.pos.0 c.loop-x.x) (AllOf c.args.pos.0) c.loop-x.invariant (λ r y is e. (e, omega (arith, all, is.state)))
