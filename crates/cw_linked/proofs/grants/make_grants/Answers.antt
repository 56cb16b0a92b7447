use Rattle.std.proofs.Common.{ℕ, ◌+◌, List, Option, length, sym, ap, ◌∙◌, arith}
use Rattle.std.specs.Prelude.{slice_get}
use Rattle.std.proofs.lemmas.List.{length_push}
use Rattle.std.proofs.lemmas.Option.{none-some}
use Rattle.cw_core.specs.declared.ids.StateId.{StateId}
use Rattle.cw_product.specs.Product.{game_of}
use Rattle.cw_linked.proofs.Granting.{one_granted}
use Rattle.cw_linked.proofs.grants.make_grants.Goals as goal

pub loop-q-init : goal.loop-q-init
loop-q-init c = record {
  long = ap (λ (xs : List (Option StateId)). length xs) c.in_ok-to.ensures.items;
  are = λ q next at. absurd (none-some next (ap (λ (xs : List (Option StateId)). slice_get xs q) (sym c.in_ok-to.ensures.items) ∙ at));
}

pub loop-q-preserved : goal.loop-q-preserved
loop-q-preserved c =
    let old = c.loop-q.to.items in
    let next = c.state_granted.result in
    let pushed = c.in_ok-push.ensures.items in
    record {
      long = ap (λ (xs : List (Option StateId)). length xs) pushed ∙ length_push old next ∙ ap (λ (n : ℕ). n + 1) c.loop-q.invariant.long;
      are = one_granted (game_of c.args.game.now) c.loop-q.q c.args.prim old c.push.new.self.items next c.loop-q.invariant.long pushed c.state_granted.ensures c.loop-q.invariant.are;
    }

pub returns-clause-grants : goal.returns-clause-grants
returns-clause-grants c = record {
  long = omega (arith, c.states-q-end.ensures, c.loop-q-test.false, c.loop-q.auto.q-end, c.loop-q.invariant.long);
  are = c.loop-q.invariant.are;
}
