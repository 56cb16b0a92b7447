use Rattle.std.proofs.Common.{◌++◌, map, refl, ap, ◌∙◌, sym}
use Rattle.std.specs.List.{flat_map}
use Rattle.std.proofs.lemmas.List.{map-append}
use Rattle.std.proofs.lemmas.List.{append_assoc}
use Rattle.cw_syntax.specs.Trees.{declared_of, trees_of}
use Rattle.cw_scope.specs.Walks.{inner, item_trees, size_of, listed}
use Rattle.cw_scope.specs.Held.{whole_of}
use Rattle.cw_scope.proofs.Pushed.{further, all_gone}
use Rattle.cw_scope.proofs.lists.put_items.Goals as goal

pub loop-item-preserved : goal.loop-item-preserved
loop-item-preserved c =
    let x = c.item-item.result in
    further (λ l. map inner (flat_map item_trees (map declared_of l))) c.args.items.now c.loop-item.item-index x _ _ (map inner (item_trees (declared_of x))) _ c.loop-item-test.true c.item-item.is (λ ys. map-append inner (item_trees (declared_of x)) (flat_map item_trees (map declared_of ys))) (let old = map whole_of c.loop-item.out.items in
    let sizes = size_of (declared_of x).array in
    let inits = listed (declared_of x).init in
    c.in_ok-put_list.ensures
    ∙ ap (λ l. map whole_of c.put_size.new.out.items ++ map inner (listed (trees_of l))) c.deref.ensures.value
    ∙ ap (λ l. l ++ map inner inits) c.in_ok-put_size.ensures
    ∙ append_assoc old (map inner sizes) (map inner inits)
    ∙ ap (λ l. old ++ l) (sym (map-append inner sizes inits))) c.loop-item.invariant

pub returns : goal.returns
returns c = all_gone (λ l. map inner (flat_map item_trees (map declared_of l))) c.args.items.now c.loop-item.item-index _ _ refl c.loop-item-test.false c.loop-item.invariant
