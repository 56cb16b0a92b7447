use Rattle.std.proofs.Common.{◌++◌, map, refl, ap, ◌∙◌}
use Rattle.std.specs.List.{flat_map}
use Rattle.cw_syntax.specs.Trees.{definition_of}
use Rattle.cw_scope.specs.Names.{param_names}
use Rattle.cw_scope.proofs.Pushed.{further, all_gone}
use Rattle.cw_scope.proofs.names.put_functions.Goals as goal

pub loop-function-preserved : goal.loop-function-preserved
loop-function-preserved c =
    let x = c.function-item.result in
    further (λ l. flat_map (λ f. param_names f.params) (map definition_of l)) c.args.functions.now c.loop-function.function-index x _ _ (param_names (definition_of x).params) _ c.loop-function-test.true c.function-item.is (λ ys. refl) (c.in_ok-put_params.ensures ∙ ap (λ l. c.loop-function.out.items ++ param_names l) c.deref.ensures.value) c.loop-function.invariant

pub returns : goal.returns
returns c = all_gone (λ l. flat_map (λ f. param_names f.params) (map definition_of l)) c.args.functions.now c.loop-function.function-index _ _ refl c.loop-function-test.false c.loop-function.invariant
