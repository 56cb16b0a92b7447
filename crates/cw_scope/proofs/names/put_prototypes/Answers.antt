use Rattle.std.proofs.Common.{◌++◌, map, refl, ap, ◌∙◌}
use Rattle.std.specs.List.{flat_map}
use Rattle.cw_syntax.specs.Trees.{prototype_of}
use Rattle.cw_scope.specs.Names.{param_names}
use Rattle.cw_scope.proofs.Pushed.{further, all_gone}
use Rattle.cw_scope.proofs.names.put_prototypes.Goals as goal

pub loop-proto-preserved : goal.loop-proto-preserved
loop-proto-preserved c =
    let x = c.proto-item.result in
    further (λ l. flat_map (λ p. param_names p.params) (map prototype_of l)) c.args.protos.now c.loop-proto.proto-index x _ _ (param_names (prototype_of x).params) _ c.loop-proto-test.true c.proto-item.is (λ ys. refl) (c.in_ok-put_params.ensures ∙ ap (λ l. c.loop-proto.out.items ++ param_names l) c.deref.ensures.value) c.loop-proto.invariant

pub returns : goal.returns
returns c = all_gone (λ l. flat_map (λ p. param_names p.params) (map prototype_of l)) c.args.protos.now c.loop-proto.proto-index _ _ refl c.loop-proto-test.false c.loop-proto.invariant
