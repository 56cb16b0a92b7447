use Rattle.std.proofs.Common.{◌≡◌, ℕ, ap, ◌∙◌, arith, inl, inr}
use Rattle.std.specs.Prelude.{slice_get}
use Rattle.std.proofs.lemmas.Bool.{cases_lt}
use Rattle.cw_game.specs.Pairs.{call_in}
use Rattle.cw_product.specs.Product.{game_of}
use Rattle.cw_linked.proofs.Taking.{is_a_call}
use Rattle.cw_linked.proofs.room.has_splits.Goals as goal

pub loop-p-init : goal.loop-p-init
loop-p-init c p call le lt = absurd (omega (arith, le, lt))

pub is_split-requires : goal.is_split-requires
is_split-requires c = omega (arith, c.loop-p-test.true, c.requires.calls.end, c.requires.there.ends)

pub loop-p-preserved : goal.loop-p-preserved
loop-p-preserved c p call le lt is =
    let g = game_of c.args.game.now in
    elim (cases_lt p c.loop-p.p) [
      | inl before ↦ c.loop-p.invariant p call le before is
      | inr ge ↦
          let here : c.loop-p.p ≡ p = omega (arith, lt, ge) in
          c.is_split.ensures c.if-is_split.false call (ap (λ (y : ℕ). call_in (slice_get g.spots y)) here ∙ is)
    ]

pub returns : goal.returns
returns c none p call of is =
    let in_span = c.requires.calls.all p of.0 (omega (arith, of.1)) (is_a_call (slice_get (game_of c.args.game.now).spots p) call is) in
    c.loop-p.invariant p call in_span.0 (omega (arith, in_span.1, c.loop-p-test.false)) is
