use Rattle.std.proofs.Common.{map, refl}
use Rattle.std.specs.List.{flat_map}
use Rattle.cw_scope.specs.Names.{local_names}
use Rattle.cw_scope.specs.Held.{nested_of}
use Rattle.cw_scope.proofs.Pushed.{further, all_gone}
use Rattle.cw_scope.proofs.names.put_all_local_names.Goals as goal

pub loop-nested-preserved : goal.loop-nested-preserved
loop-nested-preserved c =
    let x = c.nested-item.result in
    further (λ l. flat_map (λ p. local_names p.statement) (map nested_of l)) c.args.statements.now c.loop-nested.nested-index x _ _ (local_names (nested_of x).statement) _ c.loop-nested-test.true c.nested-item.is (λ ys. refl) (c.in_ok-put_local_names.ensures) c.loop-nested.invariant

pub returns : goal.returns
returns c = all_gone (λ l. flat_map (λ p. local_names p.statement) (map nested_of l)) c.args.statements.now c.loop-nested.nested-index _ _ refl c.loop-nested-test.false c.loop-nested.invariant
