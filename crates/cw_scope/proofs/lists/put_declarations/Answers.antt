use Rattle.std.proofs.Common.{◌++◌, map, refl, ap, ◌∙◌}
use Rattle.std.specs.List.{flat_map}
use Rattle.std.proofs.lemmas.List.{map-append}
use Rattle.cw_syntax.specs.Trees.{declaration_of, declared_of}
use Rattle.cw_scope.specs.Walks.{inner, item_trees, declaration_trees}
use Rattle.cw_scope.specs.Held.{whole_of}
use Rattle.cw_scope.proofs.Pushed.{further, all_gone}
use Rattle.cw_scope.proofs.lists.put_declarations.Goals as goal

pub loop-declaration-preserved : goal.loop-declaration-preserved
loop-declaration-preserved c =
    let x = c.declaration-item.result in
    further (λ l. map inner (flat_map declaration_trees (map declaration_of l))) c.args.declarations.now c.loop-declaration.declaration-index x _ _ (map inner (declaration_trees (declaration_of x))) _ c.loop-declaration-test.true c.declaration-item.is (λ ys. map-append inner (declaration_trees (declaration_of x)) (flat_map declaration_trees (map declaration_of ys))) (c.in_ok-put_items.ensures ∙ ap (λ l. map whole_of c.loop-declaration.out.items ++ map inner (flat_map item_trees (map declared_of l))) c.deref.ensures.value) c.loop-declaration.invariant

pub returns : goal.returns
returns c = all_gone (λ l. map inner (flat_map declaration_trees (map declaration_of l))) c.args.declarations.now c.loop-declaration.declaration-index _ _ refl c.loop-declaration-test.false c.loop-declaration.invariant
