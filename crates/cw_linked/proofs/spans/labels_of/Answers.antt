use Rattle.std.proofs.Common.{◌≡◌, ℕ, subst, arith}
use Rattle.std.specs.Prelude.{slice_get}
use Rattle.cw_linked.specs.Added.{loss_begins_in}
use Rattle.cw_product.specs.Product.{game_of}
use Rattle.cw_linked.specs.Spans.{IsSpan}
use Rattle.cw_linked.proofs.Spanning.{none_spanned, more_spanned}
use Rattle.cw_linked.proofs.spans.labels_of.Goals as goal

pub loop-p-init : goal.loop-p-init
loop-p-init c = let g = game_of c.args.game.now in none_spanned g c.args.function (λ p. loss_begins_in (slice_get g.spots p)) c.entry-first.result.0 c.entry-first.ensures.is

pub with_loss-span-requires : goal.with_loss-span-requires
with_loss-span-requires c = record {
  routed = c.requires.routed;
  position = (let lt = c.exit-p-end.ensures.within in omega (arith, lt, c.loop-p-test.true));
  order = c.loop-p.invariant.order;
  behind = c.loop-p.invariant.end;
}

pub loop-p-preserved : goal.loop-p-preserved
loop-p-preserved c =
    let g = game_of c.args.game.now in
    more_spanned g c.args.function (λ p. loss_begins_in (slice_get g.spots p)) c.loop-p.span c.with_loss-span.result c.loop-p.p c.loop-p.invariant c.with_loss-span.ensures

pub returns : goal.returns
returns c =
    let g = game_of c.args.game.now in
    let end : c.loop-p.p ≡ g.exit c.args.function = omega (arith, c.loop-p-test.false, c.loop-p.auto.p-end, c.requires.there.begins, c.entry-first.ensures.is, c.exit-p-end.ensures.is) in
    subst (λ (p : ℕ). IsSpan g c.args.function (λ r. loss_begins_in (slice_get g.spots r)) c.loop-p.span p) end c.loop-p.invariant
