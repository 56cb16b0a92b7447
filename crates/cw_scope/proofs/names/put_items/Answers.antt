use Rattle.std.proofs.Common.{[], ◌∷◌, map, refl}
use Rattle.cw_syntax.specs.Trees.{declared_of}
use Rattle.cw_scope.proofs.Pushed.{further, all_gone}
use Rattle.cw_scope.proofs.names.put_items.Goals as goal

pub loop-item-preserved : goal.loop-item-preserved
loop-item-preserved c =
    let x = c.item-item.result in
    further (λ l. map (λ n. n.name) (map declared_of l)) c.args.items.now c.loop-item.item-index x _ _ (x.name ∷ []) _ c.loop-item-test.true c.item-item.is (λ ys. refl) (c.in_ok-push.ensures.items) c.loop-item.invariant

pub returns : goal.returns
returns c = all_gone (λ l. map (λ n. n.name) (map declared_of l)) c.args.items.now c.loop-item.item-index _ _ refl c.loop-item-test.false c.loop-item.invariant
