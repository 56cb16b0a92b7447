use Rattle.std.proofs.Common.{arith, inl, inr}
use Rattle.std.specs.Prelude.{slice_get}
use Rattle.std.proofs.lemmas.Bool.{cases_Bool as decide}
use Rattle.cw_game.specs.Pairs.{is_call_in}
use Rattle.cw_product.specs.Product.{game_of}
use Rattle.cw_linked.proofs.room.push_indices.Goals as goal

pub push_plain-requires-clause-plain : goal.push_plain-requires-clause-plain
push_plain-requires-clause-plain c p of = elim (decide (is_call_in (slice_get (game_of c.args.game.now).spots p))) [
  | inl call ↦ absurd (
      let inside = c.requires.spans.calls.all p of.0 (omega (arith, of.1)) call in
      omega (arith, inside.0, inside.1, c.if-spans.false))
  | inr plain ↦ plain
]
