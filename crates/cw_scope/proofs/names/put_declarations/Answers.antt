use Rattle.std.proofs.Common.{◌++◌, map, refl, ap, ◌∙◌}
use Rattle.std.specs.List.{flat_map}
use Rattle.cw_syntax.specs.Trees.{declaration_of, declared_of}
use Rattle.cw_scope.specs.Names.{declared_names}
use Rattle.cw_scope.proofs.Pushed.{further, all_gone}
use Rattle.cw_scope.proofs.names.put_declarations.Goals as goal

pub loop-declaration-preserved : goal.loop-declaration-preserved
loop-declaration-preserved c =
    let x = c.declaration-item.result in
    further (λ l. flat_map declared_names (map declaration_of l)) c.args.declarations.now c.loop-declaration.declaration-index x _ _ (declared_names (declaration_of x)) _ c.loop-declaration-test.true c.declaration-item.is (λ ys. refl) (c.in_ok-put_items.ensures ∙ ap (λ l. c.loop-declaration.out.items ++ map (λ i. i.name) (map declared_of l)) c.deref.ensures.value) c.loop-declaration.invariant

pub returns : goal.returns
returns c = all_gone (λ l. flat_map declared_names (map declaration_of l)) c.args.declarations.now c.loop-declaration.declaration-index _ _ refl c.loop-declaration-test.false c.loop-declaration.invariant
