use Rattle.std.proofs.Common.{◌≡◌, ◌+◌, Some, length, sym, ap, subst, arith}
use Rattle.std.specs.Prelude.{slice_get}
use Rattle.cw_product.specs.Product.{game_of}
use Rattle.cw_solve.proofs.Tabling.{there_at}
use Rattle.cw_linked.specs.Added.{ThePair, FirstOf, AllOf}
use Rattle.cw_linked.specs.Works.{Known, IsKnown}
use Rattle.cw_linked.proofs.Askings.{one_more_state}
use Rattle.cw_linked.proofs.Freeing.{frees_nothing, frees_first, frees_more, frees_these, frees_long}
use Rattle.cw_linked.proofs.Staying.{flagged_on}
use Rattle.cw_linked.proofs.added.free_links.Goals as goal

pub is_split-requires : goal.is_split-requires
is_split-requires c =
    let at = c.args.at.now in
    let th = there_at (game_of c.args.game.now) (length c.args.game.now.graph.parts.items) c.requires.routed c.args.work.now.blocks c.requires.known.blocks at.number at.context c.requires.tabled in
    omega (arith, th.ends, c.requires.of.1)

pub free_link-requires : goal.free_link-requires
free_link-requires c =
    record {
      routed = c.requires.routed;
      known = c.requires.known;
      cell = record { at = c.requires.tabled; of = c.requires.of; state = c.requires.routed.some };
      long = c.requires.long;
      flagged = c.requires.flagged;
    }

pub returns-then-not-is_split : goal.returns-then-not-is_split
returns-then-not-is_split c =
    let at = c.args.at.now in
    frees_first (game_of c.args.game.now) at.number at.context c.args.work.now c.free_link.new.work c.args.pos.0 (c.is_split.ensures c.if-not-is_split.true) c.in_ok-free_link.ensures

pub loop-x-init : goal.loop-x-init
loop-x-init c =
    let at = c.args.at.now in
    frees_nothing (game_of c.args.game.now) at.number at.context c.args.work.now (FirstOf c.args.pos.0 0) (λ p x call is e. absurd (omega (arith, e.1)))

pub free_link-requires-in-loop-x : goal.free_link-requires-in-loop-x
free_link-requires-in-loop-x c =
    let at = c.args.at.now in
    let inv = c.loop-x.invariant in
    record {
      routed = c.requires.routed;
      known = subst (IsKnown (game_of c.args.game.now)) (sym inv.others.known) c.requires.known;
      cell = record {
        at = subst (λ (t : Known). slice_get t.blocks.contexts.items at.number ≡ Some at.context) (sym inv.others.known) c.requires.tabled;
        of = c.requires.of;
        state = omega (arith, c.loop-x-test.true, c.states-x-end.ensures);
      };
      long = frees_long (game_of c.args.game.now) at.number at.context c.args.work.now c.loop-x.work (FirstOf c.args.pos.0 c.loop-x.x) inv c.requires.long;
      flagged = flagged_on (game_of c.args.game.now) c.args.work.now c.loop-x.work (ap (λ (t : Known). t.blocks.contexts.items) inv.others.known) inv.others.flags c.requires.flagged;
    }

pub loop-x-preserved : goal.loop-x-preserved
loop-x-preserved c =
    let g = game_of c.args.game.now in
    let at = c.args.at.now in
    let p = c.args.pos.0 in
    let x = c.loop-x.x in
    frees_more g at.number at.context c.args.work.now c.loop-x.work c.free_link-in-loop-x.new.work (FirstOf p x) (ThePair p x) (FirstOf p (x + 1)) c.loop-x.invariant c.in_ok-free_link-2.ensures
    (λ r y is. one_more_state p x r y)

pub returns : goal.returns
returns c =
    let g = game_of c.args.game.now in
    let at = c.args.at.now in
    let all : c.loop-x.x ≡ g.states.count = omega (arith, c.loop-x-test.false, c.loop-x.auto.x-end, c.states-x-end.ensures) in
    frees_these g at.number at.context c.args.work.now c.loop-x.work (FirstOf c.args.pos.0 c.loop-x.x) (AllOf c.args.pos.0) c.loop-x.invariant (λ r y is e. (e, omega (arith, all, is.state)))
