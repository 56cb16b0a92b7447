use Rattle.std.proofs.Common.{[], ◌∷◌, map, refl}
use Rattle.cw_syntax.specs.Trees.{prototype_of}
use Rattle.cw_scope.proofs.Pushed.{further, all_gone}
use Rattle.cw_scope.proofs.names.put_prototype_names.Goals as goal

pub loop-proto-preserved : goal.loop-proto-preserved
loop-proto-preserved c =
    let x = c.proto-item.result in
    further (λ l. map (λ n. n.name) (map prototype_of l)) c.args.protos.now c.loop-proto.proto-index x _ _ (x.name ∷ []) _ c.loop-proto-test.true c.proto-item.is (λ ys. refl) (c.in_ok-push.ensures.items) c.loop-proto.invariant

pub returns : goal.returns
returns c = all_gone (λ l. map (λ n. n.name) (map prototype_of l)) c.args.protos.now c.loop-proto.proto-index _ _ refl c.loop-proto-test.false c.loop-proto.invariant
