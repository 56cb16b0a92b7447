use Rattle.std.proofs.Common.{◌≡◌, ℕ, [], sym, subst, arith, inl, inr}
use Rattle.std.proofs.lemmas.Bool.{cases_lt, eqb-true}
use Rattle.cw_links.specs.Lists.{list_at}
use Rattle.cw_links.specs.Low.{stacks_in}
use Rattle.cw_links.proofs.Lows.{no_vector}
use Rattle.cw_links.proofs.low.lowest.Goals as goal

pub loop-key-preserved : goal.loop-key-preserved
loop-key-preserved c =
    let vs = c.args.stacks.now in
    let v = c.index-stacks-key.result in
    let inv = c.loop-key.invariant in
    let none = eqb-true _ 0 (sym c.if-is_empty.ensures) in
    record {
      from = omega (arith, inv.from);
      clear = λ key ge lt. elim (cases_lt key c.loop-key.key) [
        | inl less ↦ inv.clear key ge less
        | inr le ↦
            let e : c.loop-key.key ≡ key = omega (arith, lt, le) in
            subst (λ (y : ℕ). list_at (stacks_in vs) y ≡ []) e
            (no_vector vs c.loop-key.key v v (omega (arith, c.loop-key-test.true)) c.index-stacks-key.is (omega (arith, none, v.ok.0)))
      ];
    }
