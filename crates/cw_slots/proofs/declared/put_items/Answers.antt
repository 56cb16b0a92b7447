use Rattle.std.proofs.Common.{◌∷◌, [], map, refl}
use Rattle.cw_syntax.specs.Trees.{declared_of}
use Rattle.cw_value.specs.Machines.{names_of}
use Rattle.cw_scope.proofs.Pushed.{further, all_gone}
use Rattle.cw_slots.specs.Texts.{of_shape}
use Rattle.cw_slots.proofs.Sorts.{names_first}
use Rattle.cw_slots.proofs.declared.put_items.Goals as goal

pub loop-item-preserved : goal.loop-item-preserved
loop-item-preserved c =
    let s = c.args.source.now in
    let shape = of_shape c.args.arrays in
    let x = c.item-item.result in
    further (λ l. names_of s shape (map declared_of l)) c.args.items.now c.loop-item.item-index x _ _ (names_of s shape (declared_of x ∷ [])) _ c.loop-item-test.true c.item-item.is
    (λ ys. names_first s shape (declared_of x) (map declared_of ys)) c.in_ok-put_name.ensures c.loop-item.invariant

pub returns : goal.returns
returns c =
    let s = c.args.source.now in
    let shape = of_shape c.args.arrays in
    all_gone (λ l. names_of s shape (map declared_of l)) c.args.items.now c.loop-item.item-index _ _ refl c.loop-item-test.false c.loop-item.invariant
