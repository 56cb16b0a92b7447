use Rattle.std.proofs.Common.{◌≡◌, ◌+◌, Some, sym, ap, subst, arith}
use Rattle.std.specs.Prelude.{slice_get}
use Rattle.cw_product.specs.Product.{game_of}
use Rattle.cw_linked.specs.Added.{AllOf, Each}
use Rattle.cw_linked.specs.Spans.{CallsBefore}
use Rattle.cw_linked.specs.Works.{Known, IsKnown}
use Rattle.cw_linked.proofs.Freeing.{frees_nothing, frees_more, frees_these, frees_long}
use Rattle.cw_linked.proofs.Spanning.{one_more_call}
use Rattle.cw_linked.proofs.Staying.{flagged_on}
use Rattle.cw_linked.proofs.Taking.{is_a_call}
use Rattle.cw_linked.proofs.added.free_all.Goals as goal

pub loop-p-init : goal.loop-p-init
loop-p-init c =
    let g = game_of c.args.game.now in
    let at = c.args.at.now in
    let first = c.args.spans.now.calls.first in
    frees_nothing g at.number at.context c.args.work.now (CallsBefore g first)
    (λ p x call is before.
    let calls = is_a_call (slice_get g.spots p) call is.calls in
    let lt = before calls in
    let inside = c.requires.spans.calls.all p is.cell.of.0 (omega (arith, is.cell.of.1)) calls in
    absurd (omega (arith, lt, inside.0)))

pub free_links-requires : goal.free_links-requires
free_links-requires c =
    let g = game_of c.args.game.now in
    let at = c.args.at.now in
    let inv = c.loop-p.invariant in
    let calls = c.requires.spans.calls in
    record {
      routed = c.requires.routed;
      known = subst (IsKnown g) (sym inv.others.known) c.requires.known;
      tabled = subst (λ (t : Known). slice_get t.blocks.contexts.items at.number ≡ Some at.context) (sym inv.others.known) c.requires.tabled;
      of = (omega (arith, c.loop-p.auto.p, calls.first), omega (arith, c.loop-p-test.true, calls.end));
      long = frees_long g at.number at.context c.args.work.now c.loop-p.work (CallsBefore g c.loop-p.p) inv c.requires.long;
      flagged = flagged_on g c.args.work.now c.loop-p.work (ap (λ (t : Known). t.blocks.contexts.items) inv.others.known) inv.others.flags c.requires.flagged;
    }

pub loop-p-preserved : goal.loop-p-preserved
loop-p-preserved c =
    let g = game_of c.args.game.now in
    let at = c.args.at.now in
    let p = c.loop-p.p in
    frees_more g at.number at.context c.args.work.now c.loop-p.work c.free_links.new.work (CallsBefore g p) (AllOf p) (CallsBefore g (p + 1)) c.loop-p.invariant c.in_ok-free_links.ensures
    (λ r y is. one_more_call g p r y)

pub returns : goal.returns
returns c =
    let g = game_of c.args.game.now in
    let at = c.args.at.now in
    frees_these g at.number at.context c.args.work.now c.loop-p.work (CallsBefore g c.loop-p.p) Each c.loop-p.invariant
    (λ r y is e calls. let inside = c.requires.spans.calls.all r is.of.0 (omega (arith, is.of.1)) calls in omega (arith, inside.1, c.loop-p-test.false))
