use Rattle.std.proofs.Common.{◌≡◌, ◌+◌, ℕ, subst, arith}
use Rattle.std.specs.Prelude.{slice_get}
use Rattle.cw_game.specs.Pairs.{is_call_in}
use Rattle.cw_product.specs.Product.{game_of}
use Rattle.cw_linked.specs.Spans.{IsSpan}
use Rattle.cw_linked.proofs.Spanning.{none_spanned, more_spanned}
use Rattle.cw_linked.proofs.spans.calls_of.Goals as goal

pub overflow_add-p-end : goal.overflow_add-p-end
overflow_add-p-end c = let lt = c.exit-p-end.ensures.within in let short = c.requires.routed.short in omega (arith, lt, short)

pub loop-p-init : goal.loop-p-init
loop-p-init c = let g = game_of c.args.game.now in none_spanned g c.args.function (λ p. is_call_in (slice_get g.spots p)) c.entry-first.result.0 c.entry-first.ensures.is

pub with_call-span-requires : goal.with_call-span-requires
with_call-span-requires c = record {
  routed = c.requires.routed;
  position = (let lt = c.exit-p-end.ensures.within in omega (arith, lt, c.loop-p-test.true));
  order = c.loop-p.invariant.order;
  behind = c.loop-p.invariant.end;
}

pub loop-p-preserved : goal.loop-p-preserved
loop-p-preserved c =
    let g = game_of c.args.game.now in
    more_spanned g c.args.function (λ p. is_call_in (slice_get g.spots p)) c.loop-p.span c.with_call-span.result c.loop-p.p c.loop-p.invariant c.with_call-span.ensures

pub returns : goal.returns
returns c =
    let g = game_of c.args.game.now in
    let end : c.loop-p.p ≡ g.exit c.args.function + 1 = omega (arith, c.loop-p-test.false, c.loop-p.auto.p-end, c.requires.there.begins, c.entry-first.ensures.is, c.exit-p-end.ensures.is) in
    subst (λ (p : ℕ). IsSpan g c.args.function (λ r. is_call_in (slice_get g.spots r)) c.loop-p.span p) end c.loop-p.invariant
